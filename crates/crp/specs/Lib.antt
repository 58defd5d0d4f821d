-- How the program ends that is given words, files and streams.
pub mod Running

-- The pictures of a page: what stands in a bay, and what a crane does there.
pub mod Names
pub mod Grid
pub mod Cells
pub mod Frames
pub mod Pictures
pub mod Views
pub mod Boxes
pub mod Rectangles

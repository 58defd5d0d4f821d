-- Lemmas on headlines and faults.
mod Meaning
mod Deciding
mod Follows
mod SoFar
mod Apart
mod Looks
mod Results
mod Bays
mod Audited
mod Reading
mod Stopping
mod Readable
mod NoFault
mod Fits
mod FirstBays

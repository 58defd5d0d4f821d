-- Lemmas on the table in the order of loading.
mod Buckets
mod TurnSteps
mod ShipSteps
mod SlotSteps
mod CheckSteps
mod RecordSteps
mod SameRecords
mod FirstTurns

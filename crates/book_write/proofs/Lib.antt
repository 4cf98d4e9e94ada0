pub mod SlotWrites
pub mod SeedStores
pub mod RowStores
pub mod Entered

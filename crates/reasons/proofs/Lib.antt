pub mod KnownPersons
pub mod Orders
pub mod Wholes
pub mod StandIns
pub mod Beside
pub mod KnownFamilies

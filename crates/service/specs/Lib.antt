pub mod Desks
pub mod Marriages
pub mod Refusals
pub mod Service

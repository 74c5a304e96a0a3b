pub mod Packet
pub mod Pid
pub mod Way
pub mod Calls

pub mod Demand3
pub mod Streams
pub mod PacksAsMessages
pub mod WhichParameter

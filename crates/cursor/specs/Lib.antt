pub mod Uncovers

pub mod Replica

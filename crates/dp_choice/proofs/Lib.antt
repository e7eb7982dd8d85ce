pub mod Conditions
mod Tables

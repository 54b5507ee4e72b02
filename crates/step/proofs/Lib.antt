pub mod Rows
mod Tables
mod Steps

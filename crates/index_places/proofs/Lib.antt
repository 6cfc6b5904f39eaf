pub mod Numbered
pub mod Lying
pub mod Laying

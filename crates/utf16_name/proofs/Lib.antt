pub mod Fronts
pub mod Grammar
pub mod Naming
pub mod Printed
pub mod Walks

pub mod NameOrders

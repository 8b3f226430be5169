pub mod ObeyedInOrder

pub mod ByClass

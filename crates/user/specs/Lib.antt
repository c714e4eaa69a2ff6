pub mod Latin1

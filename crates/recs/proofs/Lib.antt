pub mod Recs

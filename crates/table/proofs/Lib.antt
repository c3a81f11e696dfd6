pub mod RowsHold

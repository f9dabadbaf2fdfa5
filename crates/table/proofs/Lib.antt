-- The laws of a table.
pub mod Refusals
pub mod Results
pub mod Literals
pub mod NodesPass
pub mod Parts
pub mod RowLengths
pub mod RowLists
pub mod TableLaws
pub mod ListByList
pub mod Cited

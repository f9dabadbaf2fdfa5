-- The definitions that the contracts cite, each module beside the module of src/ that it describes. `Notation`, `Lists` and `Units` serve every crate.
pub mod Notation
pub mod Lists
pub mod Constants
pub mod Units
pub mod Sign
pub mod Convert
pub mod Root
pub mod Exponential
pub mod Logarithm

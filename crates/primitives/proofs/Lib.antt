pub mod BooleanLemmas
pub mod IntegerLemmas
pub mod SubidentifierLemmas
pub mod OidLemmas
pub mod BegunLemmas
pub mod BitsLemmas
pub mod TrimLemmas
mod Instances

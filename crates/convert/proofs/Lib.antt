pub mod HexLemmas
pub mod ModuleFileLemmas

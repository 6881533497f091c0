pub mod Automata
pub mod Prefixes
pub mod TableStates
pub mod Tables

pub mod Automata

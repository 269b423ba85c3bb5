pub mod Automaton
pub mod Nfa
pub mod Numbers

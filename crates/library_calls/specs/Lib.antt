pub mod run_words

-- Laws that belong to no one function.
--
-- Laws: tests of a list laid out by index; numbers that ascend, one more at a time.
-- Parts: what the definitions of a sound state read of the run is at a place of the words.
-- Clauses: the clauses of document 01 about one process, each as a test of the words.
-- OneProcess, Messages: all that is asked of one process, and of the messages.
-- Whole: the theorem.
--   verdict : (w) → ((k) → word w k ≤ 65535) → sound_in w ≡ sound (run_of w)
-- Judging: what the functions find, part by part.
pub mod Laws
pub mod Parts
pub mod Clauses
pub mod OneProcess
pub mod Messages
pub mod Whole
pub mod Judging

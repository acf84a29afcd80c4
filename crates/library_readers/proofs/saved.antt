-- Laws that belong to no one function.
--   Outcomes : what `saving` and `loading` are, refused and accepted
--   Promises : saved_is_loaded, loaded_was_saved
--   Published : the checksum of "123456789" is E3069283
--   Division  : remainder_more, remainder_append; remainder_short : what is left of bytes has 32 bits
--   FourBytes : four-bytes : bytes that differ within four in a row have different remainders; with_sum : what is left of bytes with their checksum after them is
--               the same of all bytes
--   Back  : saved_words, saved_whole : the words are read back from their bytes, which are whole; whole_saved : whole bytes are those of the words that they hold;
--           four_changed : of whole bytes up to four in a row are changed, and they are whole only if these are what they were
--   Parts : what stands where; the parts written one after the other; the tests asked one after the other
pub mod Back
pub mod Division
pub mod FourBytes
pub mod Outcomes
pub mod Parts
pub mod Promises
pub mod Published

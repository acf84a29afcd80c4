-- The layout, tried on words that are written out: the run that they stand for is computed.
-- Assumes nothing.
use Rattle.std.specs.Prelude.{◌≡◌, ◌∷◌, ◌++◌}
use Rattle.laws.specs.Basics.{refl, List, [], ℕ, replicate}
use Rattle.laws.specs.{Lists.select, Lists.table, Lists.placed, Sums.sum_below, Tests.some_of}
use Rattle.model.specs.Words.{is_pinned, blank, blocks_of, block_count, process, with_process, under_way, with_messages, with_disk}
use Rattle.model.specs.Steps.{settled, gone, billed, with_processes, start_state, started, checkpoint_zero, opening, checkpoint_state, checkpointed, advanced, storing, send_state, sent_message, marked}
use Rattle.words.specs.Layout.{wide4, pin_of_def, vector_in, pins_in, mark_in, checkpoint_in, is_kept_in, kept_in, message_in, is_message, messages_in, decoded, end_fits_of, fits, run_of}
use Rattle.words.specs.Puts.{Put, one, put_from, puts}

zeros : List ℕ
zeros = replicate 6464 0

-- A start of two processes whose block counts are 3 and 5: n and the blocks written, then what each keeps, its block count, own entry, own pin and index.
starting : List Put
starting =
    one 0 2 ∷ one 4 8
    ∷ one 16 1 ∷ one 48 3 ∷ one 64 1 ∷ one 80 1 ∷ one 96 1
    ∷ one 17 1 ∷ one 49 5 ∷ one 385 1 ∷ one 401 1 ∷ one 416 1
    ∷ []

-- A send from 0 to 1 goes on from it: how many are under way, the last number, the end, the mark (any word that is not 0), and in place 2 of the messages the
-- number, the receiver and the carried vector.
sending : List Put
sending = one 1 1 ∷ one 2 1 ∷ one 12 3 ∷ one 32 7 ∷ one 5186 1 ∷ one 5378 1 ∷ one 5472 1 ∷ []

-- So does a checkpoint at 0: the blocks written and deleted, the own entry, the own pin; its index, cause and vector in the place of the one that is deleted.
storing_one : List Put
storing_one = one 4 11 ∷ one 8 3 ∷ one 64 2 ∷ one 80 2 ∷ one 96 2 ∷ one 112 1 ∷ one 128 1 ∷ []

-- In places that are not in use: word 13; of process 2 the mark, the block count and an entry; of process 0 an index and a vector's entry in the second place of
-- kept checkpoints; of the messages a sender in place 1 (its number is 0), and a number in place 3, at the end of those in use.
leftover : List Put
leftover = one 13 9 ∷ one 34 9 ∷ one 50 9 ∷ one 704 9 ∷ one 97 9 ∷ one 144 9 ∷ one 5313 9 ∷ one 5187 9 ∷ []

start_is : run_of (puts zeros starting) ≡ start_state 2 (3 ∷ 5 ∷ [])
unfolding zeros starting put_from run_of fits end_fits_of decoded vector_in pins_in pin_of_def mark_in checkpoint_in is_kept_in kept_in messages_in message_in is_message select table placed start_state with_disk with_processes with_process started checkpoint_zero opening blank sum_below
start_is = refl

send_is : run_of (puts zeros (starting ++ sending)) ≡ send_state (start_state 2 (3 ∷ 5 ∷ [])) 0 1
unfolding zeros starting sending put_from run_of fits end_fits_of decoded vector_in pins_in pin_of_def mark_in checkpoint_in is_kept_in kept_in messages_in message_in is_message select table placed start_state with_disk with_processes with_process started checkpoint_zero opening blank sum_below send_state with_messages marked process under_way sent_message
send_is = refl

checkpoint_is : run_of (puts zeros (starting ++ storing_one)) ≡ checkpoint_state (start_state 2 (3 ∷ 5 ∷ [])) 0
unfolding zeros starting storing_one put_from run_of fits end_fits_of decoded vector_in pins_in pin_of_def mark_in checkpoint_in is_kept_in kept_in messages_in message_in is_message select table placed start_state with_disk with_processes with_process started checkpoint_zero opening blank sum_below checkpoint_state checkpointed advanced storing settled gone billed is_pinned some_of blocks_of block_count process
checkpoint_is = refl

-- What stands in places that are not in use counts for nothing.
leftover_is_nothing : run_of (puts zeros (starting ++ sending ++ leftover)) ≡ run_of (puts zeros (starting ++ sending))
unfolding zeros starting sending leftover put_from run_of fits end_fits_of decoded vector_in pins_in pin_of_def mark_in checkpoint_in is_kept_in kept_in messages_in message_in is_message select table placed
leftover_is_nothing = refl

-- An end that is not one past the last used place, an end past the places, and a word too few: a state of zeros.
end_too_far : run_of (puts zeros (starting ++ sending ++ (one 12 4 ∷ []))) ≡ blank 0
unfolding zeros starting sending put_from run_of fits end_fits_of message_in is_message
end_too_far = refl

end_past_all : run_of (puts zeros (starting ++ sending ++ (one 12 65 ∷ one 5248 1 ∷ []))) ≡ blank 0
unfolding zeros starting sending put_from run_of fits end_fits_of
end_past_all = refl

word_too_few : run_of (puts (replicate 6463 0) starting) ≡ blank 0
unfolding starting put_from run_of fits
word_too_few = refl

-- The lowest word comes first.
wide_is : wide4 (4 ∷ 3 ∷ 2 ∷ 1 ∷ []) 0 ≡ 281_483_566_841_860
wide_is = refl

-- A page that is added, protected and removed; and one that is found, and added.
use Prim.Native.Nat.{ℕ}
use mathlib.Core.Path.{refl}
use mathlib.Core.List.{List, [], ◌∷◌}
use lib.ListN.{set, replicate}
use lib.Seq.{sets}
use Rattle.machine.specs.Words.{word_at, word_bytes, words_bytes}
use Rattle.machine.specs.Record.{guest_of}
use Rattle.machine.specs.Refusals.{wrong_length, wrong_version, wrong_storage, wrong_keys, used, wrong_interval, reserved_used}
use Rattle.machine.specs.Entry.{mode_installed, extent_fits, prefix_fits, prefix_short, entry_good}
use Rattle.desk.specs.Reach.{segment_reached, page_reached, page_valid}
use Rattle.desk.specs.Extent.{some_below, guest_frame, entry_in_frame, serves_second_page, serves_as_segment}
use Rattle.desk.specs.Desk.{entry_after, storage_after, number_after, out_of_reach, state_verdict, entangled, change_verdict, desk_verdict, change_as, change_of, desk_as, desk_of}
use Rattle.desk.specs.Unbacked.{unbacked_from, unbacked_in, lowest, wrong_range, unbacked_for, unbacked_as, unbacked_of}
use Rattle.desk.specs.Theorems.{ChangesExist}
use Rattle.desk.specs.Questions.{QuestionsExist}

-- a guest of one block from origin 0
description : List ℕ
description = set (sets (replicate 200 0) 1 (200 ∷ 1 ∷ 0 ∷ 8 ∷ [])) 15 1

-- the host's tables stand in frame 0: a segment entry, and 64 bytes on sixteen page entries, each invalid
storage : List ℕ
storage = sets (sets (replicate 8192 0) 0 (word_bytes 64)) 64 (words_bytes (replicate 16 0x400))

pub changes_exist : ChangesExist
unfolding description storage word_at words_bytes guest_of wrong_length wrong_version wrong_storage wrong_keys used wrong_interval reserved_used mode_installed
    extent_fits prefix_fits prefix_short entry_good segment_reached page_reached page_valid some_below guest_frame entry_in_frame serves_second_page serves_as_segment
    entry_after storage_after number_after out_of_reach state_verdict entangled change_verdict desk_verdict change_as change_of desk_as desk_of
changes_exist = (description, (0, (storage, (replicate 2 0, (0, (1, record { added = refl; guarded = refl; removed = refl }))))))

pub questions_exist : QuestionsExist
unfolding description storage word_at words_bytes guest_of wrong_length wrong_version wrong_storage wrong_keys used wrong_interval reserved_used mode_installed
    extent_fits prefix_fits prefix_short entry_good segment_reached page_reached page_valid some_below guest_frame entry_in_frame serves_second_page serves_as_segment
    entry_after storage_after number_after out_of_reach state_verdict entangled change_verdict desk_verdict change_as change_of desk_as desk_of
    unbacked_from unbacked_in lowest wrong_range unbacked_for unbacked_as unbacked_of
questions_exist =
    (description, (0, (storage, (replicate 2 0, (0, (1, (1, record { found = refl; added = refl; backed = refl; next = refl })))))))

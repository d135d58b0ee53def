-- The walk is its steps, one after the other.
-- Assumes nothing.
use Rattle.std.specs.Prelude.{Err, Ok}
use Prim.Native.Nat.{ℕ}
use mathlib.Core.Path.{◌≡◌, refl, ap, ◌∙◌}
use mathlib.Core.Bool.{Bool, true, false, cond}
use Rattle.machine.specs.declared.Failure.{Failure}
use Rattle.machine.specs.Failures.{segment_translation, page_translation, translation_specification}
use Rattle.machine.specs.Walk.{segment_index, segment_entry_at, page_index, page_entry_at, past_segment_table, segment_invalid, segment_malformed, past_page_table, walk_page, walk_segment, walk, TableEntry, Walk}
use Rattle.storage.specs.Steps.{read_through, table_leads, segment_leads}

-- a function goes into both arms of a test
into_arms : {A B : Type 0} (f : A → B) (b : Bool) (u v : A) → cond b (f u) (f v) ≡ f (cond b u v)
into_arms f true u v = refl
into_arms f false u v = refl

module _ (read : ℕ → TableEntry) (fail : ℕ → Failure) where
  segment-step : (index : ℕ) (e : TableEntry) → walk_segment read fail index e ≡ walk_page fail (read_through read (segment_leads fail index e))
  unfolding walk_segment walk_page read_through segment_leads
  segment-step index (Err f) = refl
  segment-step index (Ok e) =
      ap (λ t. cond (segment_invalid e) (onward invalid) (cond (segment_malformed e) (onward malformed) t)) (into_arms onward (past_page_table e index) (Err (fail page_translation)) found)
      ∙ ap (λ t. cond (segment_invalid e) (onward invalid) t) (into_arms onward (segment_malformed e) malformed _)
      ∙ into_arms onward (segment_invalid e) invalid _
    where
      invalid : TableEntry
      invalid = Err (fail segment_translation)

      malformed : TableEntry
      malformed = Err (fail translation_specification)

      found : TableEntry
      found = Ok (page_entry_at e index)

      onward : TableEntry → Walk
      onward x = walk_page fail (read_through read x)

  pub walk_in_steps : (designation a : ℕ)
      → walk read fail designation a ≡ walk_page fail (read_through read (segment_leads fail (page_index a) (read_through read (table_leads fail designation a))))
  unfolding walk table_leads read_through walk_page segment_leads
  walk_in_steps designation a =
      ap (λ t. cond past (onward outside) t) (segment-step (page_index a) (read (segment_entry_at designation (segment_index a)))) ∙ into_arms onward past outside _
    where
      outside : TableEntry
      outside = Err (fail segment_translation)

      past : Bool
      past = past_segment_table designation (segment_index a)

      onward : TableEntry → Walk
      onward x = walk_page fail (read_through read (segment_leads fail (page_index a) (read_through read x)))

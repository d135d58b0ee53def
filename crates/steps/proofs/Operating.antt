-- Instructions with an operand that stands on a kept block, as their text does.
-- Assumes nothing.
use Rattle.std.specs.Prelude.{Ok}
use Prim.Native.Nat.{ℕ, ◌+◌, ◌-◌, ◌≤◌, ◌<◌}
use native.Mathlib.Omega.{arith}
use mathlib.Core.Path.{◌≡◌, refl, ap, sym, subst, ◌∙◌}
use mathlib.Core.Bool.{Bool, true, false}
use mathlib.Core.List.{List, ◌++◌}
use borrow.Author.Tests.{le-leb}
use lib.ListN.{length, take, drop}
use lib.Seq.{sets, take_all, drop-length}
use Rattle.machine.specs.declared.Cpu.{Cpu}
use Rattle.machine.specs.declared.Guest.{Guest}
use Rattle.machine.specs.declared.Psw.{Psw}
use Rattle.machine.specs.Words.{bits, word_at, word_bytes}
use Rattle.machine.specs.Psw.{wrap, with_psw, with_general, advanced}
use Rattle.machine.specs.Host.{Host}
use Rattle.machine.specs.Opcodes.{length_of}
use Rattle.machine.specs.Outcomes.{Progress}
use Rattle.machine.specs.Execute.{r1, next, fetching, storing}
use Rattle.operands.specs.Operands.{operand_of, in_one_page, to_page_end, in_pieces}
use Rattle.interruptions.specs.declared.Done.{Done}
use Rattle.interruptions.specs.declared.Event.TheVariants as event
use Rattle.interruptions.specs.declared.Frames.{Frames}
use Rattle.interruptions.specs.After.{left_by, Standing, Left}
use Rattle.interruptions.proofs.Leaving.{past_it}
use Rattle.pieces.specs.declared.Pieces.{Pieces}
use Rattle.execute.specs.Reaching.{mark_all, Reaches}
use Rattle.execute.proofs.Reaching.{not_both, fetched_open, stored_open}
use Rattle.reader.proofs.Parts.{part_word}
use Rattle.loads.proofs.Fetching.{general_loaded}
use Rattle.blocks.specs.Keeping.{Block, Leads, Stands, HasMarks}
use Rattle.steps.specs.Texting.{short_text, text_frame, done_with}
use Rattle.steps.proofs.Marking.{marked_fetched, marked-stored}
use Rattle.steps.proofs.Completing.{set_none}

-- an operand of n bytes at d in a block
module _ (h : Host) (g : Guest) (c : Cpu) (b : Block) (stands : Stands h.storage b) (small : b.first < 2147483648) (d n : ℕ) (within : d + n ≤ 2048) (some : 0 < n) where
  abbrev a : ℕ
  a = b.first + d

  abbrev place : ℕ
  place = b.place + d

  abbrev opened : Pieces
  opened = record { first = place; count = n; second = 0 }

  operand_kept : (store : Bool) → Leads g h c store b → (store ≡ true → 512 ≤ a) → operand_of g h c store a n ≡ in_pieces place n 0
  unfolding operand_of in_one_page
  operand_kept store leads low =
      rw (le-leb n (to_page_end a) (omega (arith, stands.aligned)), leads d (omega arith) (omega (arith, stands.aligned, small)) low)

  reaches_kept : (store : Bool) → Leads g h c store b → (store ≡ true → 512 ≤ a) → (x : Progress) (t : Frames)
      → h.keys ≡ mark_all t store n place n 0 h.keys → Reaches h g x c t store n (Ok opened) h.storage h.keys (operand_of g h c store a n)
  reaches_kept store leads low x t marks =
      subst (Reaches h g x c t store n (Ok opened) h.storage h.keys) (sym (operand_kept store leads low)) (refl, refl, marks)

  module _ (x : Progress) {clock : ℕ} (text : Block) (first second : ℕ) (standing : Standing h x g clock c (short_text first second) (text_frame text))
      (marks : HasMarks h.keys false text) (wrapped : wrap c a ≡ a) where
    -- the whole operand is fetched
    pub fetched_here : Leads g h c false b → HasMarks h.keys false b → (after : List ℕ → Cpu) (done : Done) → done.event ≡ event.Completed
        → left_by c done ≡ after (take n (drop place h.storage) ++ take (n - n) (drop 0 h.storage))
        → Left h g c (fetching x a n after) done h.storage h.keys
    fetched_here leads has after done ended left =
        fetched_open h x standing a n wrapped some (omega arith) h.storage h.keys after opened
        (reaches_kept false leads (λ store. not_both store refl) x (text_frame text) (marked_fetched h.keys text marks h.storage b stands d n within some has))
        done ended left

    -- bytes are stored
    pub stored_here : Leads g h c true b → HasMarks h.keys true b → 512 ≤ a → (bytes : List ℕ) → length bytes ≡ n → (to : Cpu) (done : Done) → done.event ≡ event.Completed
        → left_by c done ≡ to → Left h g c (storing x a bytes to) done (sets h.storage place bytes) h.keys
    stored_here leads has low bytes long to done ended left =
        stored_open h x standing a n wrapped some (omega arith) h.storage h.keys bytes to long done opened
        (reaches_kept true leads (λ _. low) x (text_frame text) (marked-stored h.keys text marks h.storage b stands d n within some has))
        ended left (in_one bytes long)
      where
        in_one : (bytes : List ℕ) → length bytes ≡ n → sets h.storage place bytes ≡ sets (sets h.storage place (take n bytes)) 0 (drop n bytes)
        in_one bytes long = sym (
            (λ i. sets (sets h.storage place (take_all n bytes (omega (arith, long)) i)) 0 (drop n bytes))
            ∙ ap (sets (sets h.storage place bytes) 0) (ap (λ m. drop m bytes) (sym long) ∙ drop-length bytes))

-- LOAD (L) and STORE (ST) of a word
module _ (h : Host) (x : Progress) {g : Guest} {clock : ℕ} {c : Cpu} (text : Block) (first second : ℕ)
    (standing : Standing h x g clock c (short_text first second) (text_frame text)) (marks : HasMarks h.keys false text) (psw : Psw)
    (b : Block) (stands : Stands h.storage b) (small : b.first < 2147483648) (d : ℕ) (within : d + 4 ≤ 2048) (wrapped : wrap c (b.first + d) ≡ b.first + d)
    (moves : (k : Cpu) → k.psw ≡ c.psw → psw ≡ (advanced k (length_of first)).psw) where
  pub load_here : Leads g h c false b → HasMarks h.keys false b → (value : ℕ) → value ≡ word_at h.storage (b.place + d)
      → Left h g c (fetching x (b.first + d) 4 λ bytes. next x (with_general x.cpu (r1 x) (word_at bytes 0))) (done_with c psw (bits 16 8 11 first) value) h.storage h.keys
  unfolding left_by with_psw with_general
  load_here leads has value loads =
      fetched_here h g c b stands small d 4 within (omega arith) x text first second standing marks wrapped leads has
      (λ bytes. next x (with_general x.cpu (r1 x) (word_at bytes 0))) (done_with c psw (bits 16 8 11 first) value) refl
      (general_loaded h x standing (done_with c psw (bits 16 8 11 first) value) psw (take 4 (drop (b.place + d) h.storage) ++ tail) value refl moves
      (loads ∙ sym (part_word h.storage tail (b.place + d) 4 (omega (arith, stands.inside)) 0 (b.place + d) (omega arith) (omega arith))))
    where
      tail : List ℕ
      tail = take (4 - 4) (drop 0 h.storage)

  pub store_here : length c.general.words ≡ 16 → Leads g h c true b → HasMarks h.keys true b → 512 ≤ b.first + d → (value : ℕ)
      → Left h g c (storing x (b.first + d) (word_bytes value) (next x x.cpu)) (done_with c psw 16 0) (sets h.storage (b.place + d) (word_bytes value)) h.keys
  store_here sixteen leads has low value =
      stored_here h g c b stands small d 4 within (omega arith) x text first second standing marks wrapped leads has low (word_bytes value) refl (next x x.cpu) (done_with c psw 16 0) refl
      (set_none c psw sixteen ∙ past_it h x standing c psw (moves c refl) ∙ ap (next x) (sym standing.of_cpu))

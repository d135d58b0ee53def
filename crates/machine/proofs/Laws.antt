-- Laws of the record: what a run of stores leaves alone, and what reading back gives.
-- Assumes nothing.
use Prim.Native.Nat.{ℕ, zero, suc, ◌+◌, ◌*◌, ◌/◌, ◌%◌, ◌^◌, ◌≤◌, ◌<◌}
use native.Mathlib.Omega.{arith}
use native.Mathlib.Nat.{add-zero, suc_inj}
use mathlib.Core.Path.{◌≡◌, refl, ap, sym, ◌∙◌}
use mathlib.Core.List.{List, [], ◌∷◌}
use mathlib.Core.Logic.{◌⊎◌, inl, inr, ⊎_elim}
use lib.ListN.{length, get_or, set, length-set, take}
use lib.Seq.{sets, length-sets, get_or-set_other, get_or-set_same, set_comm, set-set}
use Rattle.machine.specs.declared.Cpu.{Cpu}
use Rattle.machine.specs.declared.End.{End}
use Rattle.machine.specs.declared.End.TheVariants.{Intercepted, HostFault, BudgetUsed}
use Rattle.machine.specs.declared.Reason.TheVariants.{Instruction, Program, ExternalRequest, External, IoRequest, Wait, Validity, Stop, Operation}
use Rattle.machine.specs.Answers.{results, results_with, reason_results, end_results}
use Rattle.machine.specs.Words.{bits, byte_at, half_at, word_at, double_at, word_bytes, double_bytes, words_bytes}
use Rattle.machine.specs.Record.{record_length, GoodLength, psw_at, timer_at, results_at, control_at, general_at, request_at, residue_at, psw_bytes, register_bytes, guest_of, with_cpu, with_results, with_request, with_interval}

module _ {ℓ} {A : Type ℓ} where
  -- what stands beside a run of stores stays
  pub get_d_sets_beside : (l : List A) (at : ℕ) (vs : List A) (i : ℕ) (d : A) → (i < at) ⊎ (at + length vs ≤ i) → get_or (sets l at vs) i d ≡ get_or l i d
  get_d_sets_beside l at [] i d h = refl
  get_d_sets_beside l at (v ∷ vs) i d h =
      get_d_sets_beside (set l at v) (suc at) vs i d (⊎_elim (λ b. inl (omega arith)) (λ b. inr (omega arith)) h)
      ∙ get_or-set_other l at i v d (⊎_elim (λ b. omega arith) (λ b. omega arith) h)

  -- what a run of stores put there
  pub get_d_sets-inside : (l : List A) (at : ℕ) (vs : List A) (k : ℕ) (d : A) → k < length vs → at + length vs ≤ length l
      → get_or (sets l at vs) (at + k) d ≡ get_or vs k d
  get_d_sets-inside l at [] k d h fits = absurd (omega arith)
  get_d_sets-inside l at (v ∷ vs) zero d h fits =
      rw add-zero (get_d_sets_beside (set l at v) (suc at) vs at d (inl (omega arith)) ∙ get_or-set_same l at v d (omega arith))
  get_d_sets-inside l at (v ∷ vs) (suc k) d h fits =
      let e : at + suc k ≡ suc at + k = omega arith in
      rw e (get_d_sets-inside (set l at v) (suc at) vs k d (omega arith) (omega (arith, length-set l at v)))

  -- a store commutes with a run of stores beside it
  pub set-sets : (l : List A) (i : ℕ) (u : A) (at : ℕ) (vs : List A) → (i < at) ⊎ (at + length vs ≤ i) → set (sets l at vs) i u ≡ sets (set l i u) at vs
  set-sets l i u at [] h = refl
  set-sets l i u at (v ∷ vs) h =
      set-sets (set l at v) i u (suc at) vs (⊎_elim (λ b. inl (omega arith)) (λ b. inr (omega arith)) h)
      ∙ ap (λ (t : List A). sets t (suc at) vs) (set_comm l at i v u (⊎_elim (λ b. omega arith) (λ b. omega arith) h))

  -- two runs of stores beside each other commute
  pub sets_comm : (l : List A) (i : ℕ) (us : List A) (j : ℕ) (vs : List A) → (i + length us ≤ j) ⊎ (j + length vs ≤ i)
      → sets (sets l i us) j vs ≡ sets (sets l j vs) i us
  sets_comm l i [] j vs h = refl
  sets_comm l i (u ∷ us) j vs h =
      sets_comm (set l i u) (suc i) us j vs (⊎_elim (λ b. inl (omega arith)) (λ b. inr (omega arith)) h)
      ∙ ap (λ (t : List A). sets t (suc i) us) (sym (set-sets l i u j vs (⊎_elim (λ b. inl (omega arith)) (λ b. inr (omega arith)) h)))

  -- of two runs of stores at one place, of one length, the second counts
  pub sets-sets : (l : List A) (i : ℕ) (us vs : List A) → length us ≡ length vs → sets (sets l i us) i vs ≡ sets l i vs
  sets-sets l i [] [] h = refl
  sets-sets l i [] (v ∷ vs) h = absurd (omega arith)
  sets-sets l i (u ∷ us) [] h = absurd (omega arith)
  sets-sets l i (u ∷ us) (v ∷ vs) h =
      ap (λ (t : List A). sets t (suc i) vs) (set-sets (set l i u) i v (suc i) us (inl (omega arith)) ∙ ap (λ (t : List A). sets t (suc i) us) (set-set l i u v))
      ∙ sets-sets (set l i v) (suc i) us vs (suc_inj h)

-- two lists have the same bytes from `a` up to `e`
abbrev pub SameBytes : List ℕ → List ℕ → ℕ → ℕ → Type 0
SameBytes s t a e = (i : ℕ) → a ≤ i → i < e → byte_at s i ≡ byte_at t i

-- a word and a double word go by their bytes
pub word_of_bytes : (s t : List ℕ) (a : ℕ) → SameBytes s t a (a + 4) → word_at s a ≡ word_at t a
unfolding word_at
word_of_bytes s t a same =
    omega (
      arith,
      same a (omega arith) (omega arith),
      same (a + 1) (omega arith) (omega arith),
      same (a + 2) (omega arith) (omega arith),
      same (a + 2 + 1) (omega arith) (omega arith),
    )

pub double_of_bytes : (s t : List ℕ) (a : ℕ) → SameBytes s t a (a + 8) → double_at s a ≡ double_at t a
unfolding double_at
double_of_bytes s t a same =
    omega (
      arith,
      word_of_bytes s t a (λ i l h. same i l (omega arith)),
      word_of_bytes s t (a + 4) (λ i l h. same i (omega arith) (omega arith)),
    )

-- a double word that a run of stores put there
pub double_of_sets : (l : List ℕ) (at : ℕ) (vs : List ℕ) → 8 ≤ length vs → at + length vs ≤ length l → double_at (sets l at vs) at ≡ double_at vs 0
unfolding double_at word_at
double_of_sets l at vs long fits =
    omega (
      arith,
      byte at 0 (omega arith) (omega arith),
      byte (at + 1) 1 (omega arith) (omega arith),
      byte (at + 2) 2 (omega arith) (omega arith),
      byte (at + 2 + 1) 3 (omega arith) (omega arith),
      byte (at + 4) 4 (omega arith) (omega arith),
      byte (at + 4 + 1) 5 (omega arith) (omega arith),
      byte (at + 4 + 2) 6 (omega arith) (omega arith),
      byte (at + 4 + 2 + 1) 7 (omega arith) (omega arith),
    )
  where
    byte : (i k : ℕ) → i ≡ at + k → k < 8 → byte_at (sets l at vs) i ≡ byte_at vs k
    byte i k e h = rw e (get_d_sets-inside l at vs k 0 (omega arith) fits)

-- the bytes of a number, read back

pub half_value : (x : ℕ) → x / 256 % 256 * 256 + x % 256 ≡ x % 65536
half_value x = omega arith

pub word_value : (x : ℕ) → x / 65536 % 65536 * 65536 + x % 65536 ≡ x % 2 ^ 32
word_value x = omega arith

double_value : (x : ℕ) → x / 2 ^ 32 % 2 ^ 32 * 2 ^ 32 + x % 2 ^ 32 ≡ x % 2 ^ 64
double_value x = omega arith

pub double_of_double_bytes : (x : ℕ) → double_at (double_bytes x) 0 ≡ x % 2 ^ 64
unfolding double_at word_at
double_of_double_bytes x =
    rw (half_value (x / 2 ^ 32 / 65536), half_value (x / 2 ^ 32), half_value (x / 65536), half_value x, word_value (x / 2 ^ 32), word_value x)
    (double_value x)

-- both records have at least the 200 bytes of the shorter one
pub good_length : (r : List ℕ) → GoodLength r → record_length ≤ length r
good_length r = ⊎_elim (λ short. omega arith) (λ long. omega arith)

pub length-with_cpu : (c : Cpu) (r : List ℕ) → length (with_cpu c r) ≡ length r
unfolding with_cpu
length-with_cpu c r = simp length-sets

pub length-with_results : (vs r : List ℕ) → length (with_results vs r) ≡ length r
unfolding with_results
length-with_results vs r = length-sets r results_at vs

-- the CPU timer, read back
pub timer_of_with_cpu : (c : Cpu) (r : List ℕ) → timer_at + 8 ≤ length r → double_at (with_cpu c r) timer_at ≡ c.timer % 2 ^ 64
unfolding with_cpu
timer_of_with_cpu c r long =
    double_of_bytes _ _ timer_at
    (λ i l h.
    get_d_sets_beside (sets timed control_at (register_bytes c.control.words)) general_at (register_bytes c.general.words) i 0
    (inl (omega arith))
    ∙ get_d_sets_beside timed control_at (register_bytes c.control.words) i 0 (inl (omega arith)))
    ∙ double_of_sets (sets r psw_at (psw_bytes c.psw)) timer_at (double_bytes c.timer) (omega arith)
    (omega (arith, length-sets r psw_at (psw_bytes c.psw)))
    ∙ double_of_double_bytes c.timer
  where
    timed : List ℕ
    timed = sets (sets r psw_at (psw_bytes c.psw)) timer_at (double_bytes c.timer)

-- no more bytes than the words that are taken
pub registers_short : (k : ℕ) (ws : List ℕ) → length (words_bytes (take k ws)) ≤ 4 * k
unfolding words_bytes
registers_short zero ws = omega arith
registers_short (suc k) [] = omega arith
registers_short (suc k) (w ∷ ws) = omega (arith, registers_short k ws)

-- a byte of the record that is not among the fields that units change
abbrev pub BesideCpu : ℕ → Type 0
BesideCpu i = (i < psw_at) ⊎ ((timer_at + 8 ≤ i) × (i < control_at)) ⊎ (request_at ≤ i)

-- the fields that units change leave every other byte alone
pub byte_of-with_cpu : (c : Cpu) (r : List ℕ) (i : ℕ) → BesideCpu i → byte_at (with_cpu c r) i ≡ byte_at r i
unfolding with_cpu
byte_of-with_cpu c r i h =
    get_d_sets_beside with_controls general_at (register_bytes c.general.words) i 0
    (beside (λ b. inl (omega arith)) (λ b. inl (omega arith)) λ b. inr (omega (arith, registers_short 16 c.general.words)))
    ∙ get_d_sets_beside with_timer control_at (register_bytes c.control.words) i 0
    (beside (λ b. inl (omega arith)) (λ b. inl (omega arith)) λ b. inr (omega (arith, registers_short 16 c.control.words)))
    ∙ get_d_sets_beside with_psw timer_at (double_bytes c.timer) i 0
    (beside (λ b. inl (omega arith)) (λ b. inr b.0) λ b. inr (omega arith))
    ∙ get_d_sets_beside r psw_at (psw_bytes c.psw) i 0 (beside (λ b. inl b) (λ b. inr (omega arith)) λ b. inr (omega arith))
  where
    beside : {A : Type 0} → (i < psw_at → A) → ((timer_at + 8 ≤ i) × (i < control_at) → A) → (request_at ≤ i → A) → A
    beside low middle high = ⊎_elim low (⊎_elim middle high) h

    with_psw : List ℕ
    with_psw = sets r psw_at (psw_bytes c.psw)

    with_timer : List ℕ
    with_timer = sets with_psw timer_at (double_bytes c.timer)

    with_controls : List ℕ
    with_controls = sets with_timer control_at (register_bytes c.control.words)

pub byte_of-with_results : (vs r : List ℕ) (i : ℕ) → length vs ≡ 14 → (i < results_at) ⊎ (results_at + 14 ≤ i) → byte_at (with_results vs r) i ≡ byte_at r i
unfolding with_results
byte_of-with_results vs r i e h = get_d_sets_beside r results_at vs i 0 (⊎_elim inl (λ b. inr (omega arith)) h)

-- the part of the guest's state that no unit changes goes by bytes 0-15 and 32-51
pub guest_of-bytes : (r t : List ℕ) → SameBytes r t 0 psw_at → SameBytes r t (timer_at + 8) results_at → guest_of r ≡ guest_of t
unfolding guest_of
guest_of-bytes r t low high =
    λ j. record {
      version = byte 2 (omega arith) j;
      interventions = byte 3 (omega arith) j;
      mode = byte 4 (omega arith) j;
      interceptions = byte 5 (omega arith) j;
      lctl = half 6 (omega arith) j;
      prefix = bits 32 1 19 (word_of_bytes r t 8 (λ i l h. low i (omega arith) (omega arith)) j);
      origin = half 12 (omega arith) j;
      extent = half 14 (omega arith) j;
      comparator = double_of_bytes r t 32 (λ i l h. high i (omega arith) (omega arith)) j;
      epoch = double_of_bytes r t 40 (λ i l h. high i (omega arith) (omega arith)) j;
      svc = high 48 (omega arith) (omega arith) j;
      svc1 = high 49 (omega arith) (omega arith) j;
      svc2 = high 50 (omega arith) (omega arith) j;
      svc3 = high 51 (omega arith) (omega arith) j;
    }
  where
    byte : (i : ℕ) → i < psw_at → byte_at r i ≡ byte_at t i
    byte i h = low i (omega arith) h

    half : (i : ℕ) → i + 1 < psw_at → half_at r i ≡ half_at t i
    half i h = omega (arith, byte i (omega arith), byte (i + 1) h)

pub guest_of-with_cpu : (c : Cpu) (r : List ℕ) → guest_of (with_cpu c r) ≡ guest_of r
guest_of-with_cpu c r =
    guest_of-bytes (with_cpu c r) r (λ i l h. byte_of-with_cpu c r i (inl h))
    (λ i l h. byte_of-with_cpu c r i (inr (inl (omega arith))))

pub guest_of-with_results : (vs r : List ℕ) → guest_of (with_results vs r) ≡ guest_of r
unfolding with_results
guest_of-with_results vs r =
    guest_of-bytes (with_results vs r) r (λ i l h. get_d_sets_beside r results_at vs i 0 (inl (omega arith)))
    (λ i l h. get_d_sets_beside r results_at vs i 0 (inl h))

-- every end of a run has fourteen bytes of results
pub length-end_results : (e : End) → length (end_results e) ≡ 14
unfolding end_results reason_results results_with results
length-end_results (Intercepted (Instruction t)) = refl
length-end_results (Intercepted (Program code ilc address)) = refl
length-end_results (Intercepted ExternalRequest) = refl
length-end_results (Intercepted (External code)) = refl
length-end_results (Intercepted IoRequest) = refl
length-end_results (Intercepted Wait) = refl
length-end_results (Intercepted Validity) = refl
length-end_results (Intercepted Stop) = refl
length-end_results (Intercepted (Operation t)) = refl
length-end_results (HostFault f) = refl
length-end_results BudgetUsed = refl

-- results and state are put into the record in either order
pub with_results-with_cpu : (vs : List ℕ) (c : Cpu) (r : List ℕ) → length vs ≡ 14 → with_results vs (with_cpu c r) ≡ with_cpu c (with_results vs r)
unfolding with_results with_cpu
with_results-with_cpu vs c r e =
    sets_comm (sets timed control_at controls) general_at generals results_at vs (inr (omega arith))
    ∙ ap (λ (t : List ℕ). sets t general_at generals)
    (sets_comm timed control_at controls results_at vs (inr (omega arith))
    ∙ ap (λ (t : List ℕ). sets t control_at controls)
    (sets_comm (sets r psw_at psw) timer_at timer results_at vs (inl (omega arith))
    ∙ ap (λ (t : List ℕ). sets t timer_at timer) (sets_comm r psw_at psw results_at vs (inl (omega arith)))))
  where
    psw : List ℕ
    psw = psw_bytes c.psw

    timer : List ℕ
    timer = double_bytes c.timer

    controls : List ℕ
    controls = register_bytes c.control.words

    generals : List ℕ
    generals = register_bytes c.general.words

    timed : List ℕ
    timed = sets (sets r psw_at psw) timer_at timer

-- the later results count
pub with_results-with_results : (vs ws r : List ℕ) → length vs ≡ length ws → with_results ws (with_results vs r) ≡ with_results ws r
unfolding with_results
with_results-with_results vs ws r e = sets-sets r results_at vs ws e

-- the interval timer's fields

pub length-with_request : (request : ℕ) (r : List ℕ) → length (with_request request r) ≡ length r
unfolding with_request
length-with_request request r = length-set r request_at request

pub length-with_interval : (request residue : ℕ) (r : List ℕ) → length (with_interval request residue r) ≡ length r
unfolding with_interval
length-with_interval request residue r = length-sets (with_request request r) residue_at (word_bytes residue) ∙ length-with_request request r

pub byte_of-with_request : (request : ℕ) (r : List ℕ) (i : ℕ) → (i < request_at) ⊎ (request_at < i)
    → byte_at (with_request request r) i ≡ byte_at r i
unfolding with_request
byte_of-with_request request r i h = get_or-set_other r request_at i request 0 (⊎_elim (λ b. omega arith) (λ b. omega arith) h)

pub byte_of-with_interval : (request residue : ℕ) (r : List ℕ) (i : ℕ) → (i < request_at) ⊎ ((request_at < i) × (i < residue_at))
    → byte_at (with_interval request residue r) i ≡ byte_at r i
unfolding with_interval
byte_of-with_interval request residue r i h =
    get_d_sets_beside (with_request request r) residue_at (word_bytes residue) i 0 (inl (⊎_elim (λ b. omega arith) (λ b. omega arith) h))
    ∙ byte_of-with_request request r i (⊎_elim (λ b. inl b) (λ b. inr b.0) h)

pub guest_of-with_request : (request : ℕ) (r : List ℕ) → guest_of (with_request request r) ≡ guest_of r
guest_of-with_request request r =
    guest_of-bytes (with_request request r) r (λ i l h. byte_of-with_request request r i (inl (omega arith)))
    (λ i l h. byte_of-with_request request r i (inl (omega arith)))

pub guest_of-with_interval : (request residue : ℕ) (r : List ℕ) → guest_of (with_interval request residue r) ≡ guest_of r
guest_of-with_interval request residue r =
    guest_of-bytes (with_interval request residue r) r (λ i l h. byte_of-with_interval request residue r i (inl (omega arith)))
    (λ i l h. byte_of-with_interval request residue r i (inl (omega arith)))

-- results and the interval timer's fields are put into the record in either order
pub with_results-with_request : (vs : List ℕ) (request : ℕ) (r : List ℕ) → length vs ≡ 14
    → with_results vs (with_request request r) ≡ with_request request (with_results vs r)
unfolding with_results with_request
with_results-with_request vs request r e = sym (set-sets r request_at request results_at vs (inr (omega arith)))

pub with_results-with_interval : (vs : List ℕ) (request residue : ℕ) (r : List ℕ) → length vs ≡ 14
    → with_results vs (with_interval request residue r) ≡ with_interval request residue (with_results vs r)
unfolding with_results with_interval with_request
with_results-with_interval vs request residue r e =
    sets_comm (set r request_at request) residue_at (word_bytes residue) results_at vs (inr (omega arith))
    ∙ ap (λ (t : List ℕ). sets t residue_at (word_bytes residue)) (sym (set-sets r request_at request results_at vs (inr (omega arith))))

-- The instructions that a lap does, each as a step: the unit of the definition.
-- Assumes nothing.
use Rattle.std.proofs.Common.{◌≡◌, ℕ, ◌+◌, ◌*◌, ◌/◌, ◌%◌, ◌^◌, ◌<◌, ◌≤◌, Bool, true, false, cond, not, ◌&&◌, eqb, List, length, get_or, sym, refl, ap, ◌∙◌, subst, div-one, arith, ne_eqb, eqb-true}
use Rattle.machine.specs.declared.Class.{Class}
use Rattle.machine.specs.declared.Class.TheVariants.{Lr, Bcr, La, Bc, Unassigned}
use Rattle.machine.specs.declared.Cpu.{Cpu}
use Rattle.machine.specs.declared.Guest.{Guest}
use Rattle.machine.specs.declared.Registers.{Registers}
use Rattle.machine.specs.Words.{bits, byte_at, half_at}
use Rattle.machine.specs.Psw.{condition_code, overflow_enabled, wrap, with_address, advanced, with_condition_code, general}
use Rattle.machine.specs.Host.{host}
use Rattle.machine.specs.Opcodes.{same_class, both, row, opcodes, has, find, length_of}
use Rattle.machine.specs.Outcomes.{Progress}
use Rattle.machine.specs.Execute.{r1, r2, address_part, indexed_address, sum_code, summed, selected, branch, load_register, load_address, branch_register, branch_indexed, execute}
use Rattle.machine.specs.Units.{intercepts}
use Rattle.cpu.proofs.Wrap.{wrap-wrap}
use Rattle.address.specs.Touching.{seen}
use Rattle.interruptions.specs.After.{Standing, Left}
use Rattle.psws.specs.Psws.{state, psw_at}
use Rattle.psws.proofs.Placed.{overflow_at, moved_at, coded_at, rewrapped}
use Rattle.sums.specs.Summing.{outside, code_in, Says}
use Rattle.sums.proofs.Codes.{small-code_in}
use Rattle.blocks.specs.Keeping.{Keeps}
use Rattle.steps.specs.Texting.{short_text, text_frame, done_with}
use Rattle.steps.proofs.Reading.{length_one, length_two, reads_one, reads_two}
use Rattle.steps.proofs.Deciding.{listed, executed_here}
use Rattle.steps.proofs.Completing.{set_here, sum_here, branch_here}
use Rattle.lap.specs.declared.Step.{Step}
use Rattle.lap.specs.Stepping.{Spot, address_in, psw_in, nowhere, total_of, step_to, step_wants, branch_step, psw_after, Ground, Top, Steps}
use Rattle.lap.proofs.Placing.{leads_of, here, wraps, wrapped_here, coded_here, past_here}

and_swapped : (x y : Bool) → (y && x) ≡ false → (x && y) ≡ false
and_swapped true true none = none
and_swapped true false none = refl
and_swapped false y none = refl

module _ (storage keys kept : List ℕ) (k : Spot) (at sum : ℕ) (words : List ℕ) (ground : Ground storage keys kept k at) (sixteen : length words ≡ 16)
    (op registers : ℕ) (opcode : byte_at storage at ≡ op) (fields : byte_at storage (at + 1) ≡ registers) (byte : registers < 256) where
  abbrev pub first : ℕ
  first = op * 256 + registers

  abbrev pub second : ℕ
  second = half_at storage (at + 2)

  read : first ≡ half_at storage at
  read = λ i. sym opcode i * 256 + sym fields i

  pub field_one : bits 16 8 11 first ≡ registers / 16
  field_one = omega (arith, byte)

  field_two : bits 16 12 15 first ≡ registers % 16
  field_two = ap (λ n. n % 16) (div-one first) ∙ omega (arith, byte)

  -- what an instruction of this class does is the step, for every host and state that stand so
  abbrev pub Effect : Class → ℕ → Step → List ℕ → Type 0
  Effect kind half s storage' =
      (g : Guest) (designation : ℕ) (control : Registers) → Keeps g (host designation storage keys) (seen (psw_in k at sum) control) kept
      → (clock : ℕ) (c : Cpu) → c.psw ≡ psw_in k at sum → c.control ≡ control → c.general.words ≡ words
      → (x : Progress) → Standing (host designation storage keys) x g clock c (short_text first half) (text_frame k.text)
      → Left (host designation storage keys) g c (execute kind x) (done_with c (psw_after k s) s.register s.value) storage' keys

  -- an instruction of the table's that is neither privileged nor aligned
  abbrev Listed : Class → Type 0
  Listed kind = (system370 : Bool) → find system370 op opcodes ≡ row both op false 1 kind

  pub of_one : op < 64 → (kind : Class) → Listed kind → same_class kind Unassigned ≡ false → ((x : Progress) → intercepts kind x ≡ false) → (s : Step) (storage' : List ℕ)
      → Effect kind 0 s storage' → Steps storage keys kept k at sum words s storage'
  of_one low kind row assigned clear s storage' effect g designation control keeps leads = record {
    register = s.register;
    value = s.value;
    words = refl;
    left = λ clock c same controls general.
        let h = host designation storage keys in
        let length = length_one first (omega (arith, byte, low)) in
        executed_here h g clock c k.text first 0 kind (done_with c (psw_after k s) s.register s.value)
        (reads_one h g clock c k.text at (leads_of g h (psw_in k at sum) control c same controls false k.text leads) ground.text ground.low ground.from
        (omega (arith, ground.whole)) ground.even (here storage keys kept k at sum ground c same) (wrapped_here storage keys kept k at sum ground c same) first read length)
        (listed c.psw.system370 first op kind (omega (arith, byte)) (not_b2 op (omega (arith, low))) (row c.psw.system370)) assigned clear
        (effect g designation control keeps clock c same controls general);
  }
    where
      not_b2 : (n : ℕ) → n < 178 → eqb n 0xb2 ≡ false
      not_b2 n less = ne_eqb n 0xb2 (omega arith)

  pub of_two : 64 ≤ op → op < 178 → (kind : Class) → Listed kind → same_class kind Unassigned ≡ false → ((x : Progress) → intercepts kind x ≡ false) → (s : Step) (storage' : List ℕ)
      → Effect kind second s storage' → Steps storage keys kept k at sum words s storage'
  of_two low high kind row assigned clear s storage' effect g designation control keeps leads = record {
    register = s.register;
    value = s.value;
    words = refl;
    left = λ clock c same controls general.
        let h = host designation storage keys in
        let length = length_two first (omega (arith, byte, low)) (omega (arith, byte, high)) in
        executed_here h g clock c k.text first second kind (done_with c (psw_after k s) s.register s.value)
        (reads_two h g clock c k.text at (leads_of g h (psw_in k at sum) control c same controls false k.text leads) ground.text ground.low ground.from
        (omega (arith, ground.whole)) ground.even (here storage keys kept k at sum ground c same) (wrapped_here storage keys kept k at sum ground c same) first second read refl length ground.whole)
        (listed c.psw.system370 first op kind (omega (arith, byte)) (ne_eqb op 0xb2 (omega (arith, high))) (row c.psw.system370)) assigned clear
        (effect g designation control keeps clock c same controls general);
  }

  -- the general registers that the text names
  module _ (half : ℕ) (c : Cpu) (contents : c.general.words ≡ words) (x : Progress) (of_cpu : x.cpu ≡ c) (of_text : x.text ≡ short_text first half) where
    pub one_named : get_or words (registers / 16) 0 ≡ general x.cpu (r1 x)
    one_named =
        (λ i. get_or (sym contents i) (sym field_one i) 0) ∙ (λ i. general (sym of_cpu i) (bits 16 8 11 (sym of_text i).first))

    pub two_named : get_or words (registers % 16) 0 ≡ general x.cpu (r2 x)
    two_named =
        (λ i. get_or (sym contents i) (sym field_two i) 0) ∙ (λ i. general (sym of_cpu i) (bits 16 12 15 (sym of_text i).first))

  -- past an instruction of one halfword, and of two

  past_one : op < 64 → (c : Cpu) → c.psw ≡ psw_in k at sum → psw_at k.psw (address_in k (at + 2)) (code_in sum) ≡ (advanced c (length_of first)).psw
  past_one low c same = past_here storage keys kept k at sum ground c same 1 ∙ ap (λ n. (advanced c n).psw) (sym (length_one first (omega (arith, byte, low))))

  pub past_two : 64 ≤ op → op < 178 → (c : Cpu) → c.psw ≡ psw_in k at sum → psw_at k.psw (address_in k (at + 4)) (code_in sum) ≡ (advanced c (length_of first)).psw
  past_two low high c same =
      past_here storage keys kept k at sum ground c same 2 ∙ ap (λ n. (advanced c n).psw) (sym (length_two first (omega (arith, byte, low)) (omega (arith, byte, high))))

  -- LOAD (LR)
  pub lr_steps : op ≡ 0x18 → Steps storage keys kept k at sum words (step_to (at + 2) sum (registers / 16) (get_or words (registers % 16) 0)) storage
  unfolding find has intercepts execute load_register psw_after
  lr_steps is =
      of_one (omega (arith, is)) Lr (λ b. rw is refl) refl (λ x. refl) (step_to (at + 2) sum (registers / 16) (get_or words (registers % 16) 0)) storage
      (λ g designation control keeps clock c same controls contents x standing.
      subst (λ r. Left (host designation storage keys) g c (load_register x) (done_with c (psw_at k.psw (address_in k (at + 2)) (code_in sum)) r (get_or words (registers % 16) 0)) storage keys) field_one
      (set_here (host designation storage keys) x k.text first 0 standing ground.text_marks (psw_at k.psw (address_in k (at + 2)) (code_in sum)) (get_or words (registers % 16) 0)
      (two_named 0 c contents x standing.of_cpu standing.of_text) (past_one (omega (arith, is)) c same)))

  -- ADD (AR) and SUBTRACT (SR)
  module _ (kind : Class) (low : op < 64) (row : Listed kind) (assigned : same_class kind Unassigned ≡ false) (clear : (x : Progress) → intercepts kind x ≡ false)
      (value : ℕ) (overflow : Bool) (s : ℕ) (says : Says value overflow s) (trap : Bool) (enabled : trap ≡ overflow_enabled (state k.psw))
      (executes : (x : Progress) → get_or words (registers / 16) 0 ≡ general x.cpu (r1 x) → get_or words (registers % 16) 0 ≡ general x.cpu (r2 x) → execute kind x ≡ summed x value overflow) where
    no_trap : (c : Cpu) → c.psw ≡ psw_in k at sum → (trap && outside s) ≡ false → (overflow && overflow_enabled c) ≡ false
    no_trap c same none =
        (λ i. sym says.over i && trapped i) ∙ and_swapped (outside s) trap none
      where
        trapped : overflow_enabled c ≡ trap
        trapped = overflow_at k.psw ground.left ground.right (address_in k at) (code_in sum) (small-code_in sum) c same ∙ sym enabled

    pub sum_steps : (trap && outside s) ≡ false → Steps storage keys kept k at sum words (step_to (at + 2) s (registers / 16) (s % 2 ^ 32)) storage
    unfolding psw_after
    sum_steps none =
        of_one low kind row assigned clear (step_to (at + 2) s (registers / 16) (s % 2 ^ 32)) storage
        (λ g designation control keeps clock c same controls contents x standing.
        let h = host designation storage keys in
        let past = psw_at k.psw (address_in k (at + 2)) (code_in s) in
        let coded : psw_in k at s ≡ (with_condition_code c (sum_code value overflow)).psw =
        sym (coded_at k.psw ground.left ground.right (address_in k at) (code_in sum) (small-code_in sum) c same (code_in s) (small-code_in s)) ∙ ap (λ n. (with_condition_code c n).psw) says.code in
        let done = executes x (one_named 0 c contents x standing.of_cpu standing.of_text) (two_named 0 c contents x standing.of_cpu standing.of_text) in
        subst (λ o. Left h g c o (done_with c past (registers / 16) (s % 2 ^ 32)) storage keys) (sym done)
        (subst (λ v. Left h g c (summed x value overflow) (done_with c past (registers / 16) v) storage keys) (sym says.word)
        (subst (λ r. Left h g c (summed x value overflow) (done_with c past r value) storage keys) field_one
        (sum_here h x k.text first 0 standing ground.text_marks past value overflow (no_trap c same none) (psw_in k at s) coded
        (λ j moved. past_here storage keys kept k at s ground j moved 1 ∙ ap (λ n. (advanced j n).psw) (sym (length_one first (omega (arith, byte, low)))))))))

  -- branches, by the address that the code has of the target: the PSW cuts it
  module _ (kind : Class) (n half : ℕ) (steps : (s : Step) → Effect kind half s storage → Steps storage keys kept k at sum words s storage) (long : length_of first ≡ n)
      (taken : Bool) (to : ℕ) (executes : (clock : ℕ) (c : Cpu) → c.psw ≡ psw_in k at sum → c.general.words ≡ words → (x : Progress) → x.cpu ≡ c → x.text ≡ short_text first half
      → (a : ℕ) × (execute kind x ≡ branch x taken a) × (wrap (state k.psw) a ≡ wrap (state k.psw) to)) where
    -- the PSW behind the branch is this
    branch_goes : (s : Step) → s.register ≡ 16 → s.value ≡ 0
        → ((c : Cpu) → c.psw ≡ psw_in k at sum → (a : ℕ) → wrap (state k.psw) a ≡ wrap (state k.psw) to → psw_after k s ≡ (cond taken (with_address c a) (advanced c n)).psw)
        → Steps storage keys kept k at sum words s storage
    branch_goes s register value moved =
        steps s (λ g designation control keeps clock c same controls contents x standing.
        let h = host designation storage keys in
        let (a, is, alike) = executes clock c same contents x standing.of_cpu standing.of_text in
        let sixteen-here : length c.general.words ≡ 16 = ap length contents ∙ sixteen in
        subst (λ o. Left h g c o (done_with c (psw_after k s) s.register s.value) storage keys) (sym is)
        (subst (λ r. Left h g c (branch x taken a) (done_with c (psw_after k s) r s.value) storage keys) (sym register)
        (subst (λ v. Left h g c (branch x taken a) (done_with c (psw_after k s) 16 v) storage keys) (sym value)
        (branch_here h x k.text first half standing ground.text_marks (psw_after k s) sixteen-here taken a refl refl
        (moved c same a alike ∙ ap (λ m. (cond taken (with_address c a) (advanced c m)).psw) (sym long))))))

    pub not_taken : taken ≡ false → Steps storage keys kept k at sum words (step_to (at + 2 * n) sum 16 0) storage
    unfolding psw_after
    not_taken stays =
        branch_goes (step_to (at + 2 * n) sum 16 0) refl refl
        (λ c same a alike. past_here storage keys kept k at sum ground c same n ∙ ap (λ b. (cond b (with_address c a) (advanced c n)).psw) (sym stays))

    pub is_taken : taken ≡ true → to < nowhere → (top topAt : ℕ) → Top k top topAt → Steps storage keys kept k at sum words (branch_step at sum to top topAt) storage
    unfolding psw_after branch_step
    is_taken goes small top topAt leads = by_top (eqb to top) refl
      where
        jumps : (c : Cpu) → c.psw ≡ psw_in k at sum → (a : ℕ) → wrap (state k.psw) a ≡ wrap (state k.psw) to → psw_at k.psw to (code_in sum) ≡ (cond taken (with_address c a) (advanced c n)).psw
        jumps c same a alike =
            sym (rewrapped k.psw to (code_in sum)) ∙ ap (λ w. psw_at k.psw w (code_in sum)) (sym alike) ∙ rewrapped k.psw a (code_in sum)
            ∙ sym (moved_at k.psw ground.left ground.right (address_in k at) (code_in sum) (small-code_in sum) c same a)
            ∙ ap (λ b. (cond b (with_address c a) (advanced c n)).psw) (sym goes)

        by_top : (b : Bool) → eqb to top ≡ b → Steps storage keys kept k at sum words (cond b (step_to topAt sum 16 0) (step_wants 1 to at sum)) storage
        by_top true is =
            let here : to ≡ top = eqb-true to top is in
            branch_goes (step_to topAt sum 16 0) refl refl
            (λ c same a alike.
            ap (λ w. psw_at k.psw w (code_in sum)) (sym (leads.leads (omega (arith, here)))) ∙ rewrapped k.psw top (code_in sum)
            ∙ ap (λ w. psw_at k.psw w (code_in sum)) (sym here) ∙ jumps c same a alike)
        by_top false isnt = branch_goes (step_wants 1 to at sum) refl refl jumps

  -- BRANCH ON CONDITION (BCR)
  abbrev pub bcr_taken : Bool
  bcr_taken = not (eqb (registers % 16) 0) && selected (registers / 16) (code_in sum)

  bcr_executes : (clock : ℕ) (c : Cpu) → c.psw ≡ psw_in k at sum → c.general.words ≡ words → (x : Progress) → x.cpu ≡ c → x.text ≡ short_text first 0
      → (a : ℕ) × (execute Bcr x ≡ branch x bcr_taken a) × (wrap (state k.psw) a ≡ wrap (state k.psw) (get_or words (registers % 16) 0))
  unfolding execute branch_register
  bcr_executes clock c same contents x of_cpu of_text = (
    general x.cpu (r2 x),
    (λ i. branch x (not (eqb (two i) 0) && selected (one i) (code i)) (general x.cpu (r2 x))),
    ap (wrap (state k.psw)) (sym (two_named 0 c contents x of_cpu of_text)),
  )
    where
      two : r2 x ≡ registers % 16
      two = ap (λ u. bits 16 12 15 u.first) of_text ∙ field_two

      one : r1 x ≡ registers / 16
      one = ap (λ u. bits 16 8 11 u.first) of_text ∙ field_one

      code : condition_code x.cpu ≡ code_in sum
      code = ap condition_code of_cpu ∙ coded_here storage keys kept k at sum ground c same

  module _ (is : op ≡ 0x07) where
    bcr_by : (s : Step) → Effect Bcr 0 s storage → Steps storage keys kept k at sum words s storage
    unfolding find has intercepts
    bcr_by s = of_one (omega (arith, is)) Bcr (λ b. rw is refl) refl (λ x. refl) s storage

    pub bcr_stays : bcr_taken ≡ false → Steps storage keys kept k at sum words (step_to (at + 2) sum 16 0) storage
    bcr_stays = not_taken Bcr 1 0 bcr_by (length_one first (omega (arith, byte, is))) bcr_taken (get_or words (registers % 16) 0) bcr_executes

    pub bcr_goes : bcr_taken ≡ true → get_or words (registers % 16) 0 < nowhere → (top topAt : ℕ) → Top k top topAt
        → Steps storage keys kept k at sum words (branch_step at sum (get_or words (registers % 16) 0) top topAt) storage
    bcr_goes = is_taken Bcr 1 0 bcr_by (length_one first (omega (arith, byte, is))) bcr_taken (get_or words (registers % 16) 0) bcr_executes

  -- the operand's address D2(X2,B2)
  module _ (half : second < 65536) where
    abbrev total : ℕ
    total = total_of words (registers % 16) second

    pub indexed_here : (c : Cpu) → c.psw ≡ psw_in k at sum → c.general.words ≡ words → (x : Progress) → x.cpu ≡ c → x.text ≡ short_text first second
        → wrap (state k.psw) total ≡ indexed_address x
    unfolding indexed_address address_part
    indexed_here c same contents x of_cpu of_text =
        sym (wraps storage keys kept k at sum ground c same total)
        ∙ (λ i. wrap (sym of_cpu i) (cond (eqb (index i) 0) 0 (get_or (words_in i) (index i) 0) + cond (eqb (base i) 0) 0 (get_or (words_in i) (base i) 0) + displacement i))
      where
        index : registers % 16 ≡ bits 16 12 15 x.text.first
        index = sym (ap (λ u. bits 16 12 15 u.first) of_text ∙ field_two)

        base : second / 4096 ≡ bits 16 0 3 x.text.second
        base = let small : second / 4096 ≡ bits 16 0 3 second = omega (arith, half) in small ∙ ap (λ u. bits 16 0 3 u.second) (sym of_text)

        displacement : second % 4096 ≡ bits 16 4 15 x.text.second
        displacement = ap (λ n. n % 4096) (sym (div-one second)) ∙ ap (λ u. bits 16 4 15 u.second) (sym of_text)

        words_in : words ≡ x.cpu.general.words
        words_in = sym (ap (λ j. j.general.words) of_cpu ∙ contents)

    -- LOAD ADDRESS (LA)
    pub la_steps : op ≡ 0x41 → (value : ℕ) → value ≡ wrap (state k.psw) total → Steps storage keys kept k at sum words (step_to (at + 4) sum (registers / 16) value) storage
    unfolding find has intercepts execute load_address psw_after
    la_steps is value cuts =
        of_two (omega (arith, is)) (omega (arith, is)) La (λ b. rw is refl) refl (λ x. refl) (step_to (at + 4) sum (registers / 16) value) storage
        (λ g designation control keeps clock c same controls contents x standing.
        subst (λ r. Left (host designation storage keys) g c (load_address x) (done_with c (psw_at k.psw (address_in k (at + 4)) (code_in sum)) r value) storage keys) field_one
        (set_here (host designation storage keys) x k.text first second standing ground.text_marks (psw_at k.psw (address_in k (at + 4)) (code_in sum)) value
        (cuts ∙ indexed_here c same contents x standing.of_cpu standing.of_text) (past_two (omega (arith, is)) (omega (arith, is)) c same)))

    -- BRANCH ON CONDITION (BC)
    abbrev pub bc_taken : Bool
    bc_taken = selected (registers / 16) (code_in sum)

    bc_executes : (clock : ℕ) (c : Cpu) → c.psw ≡ psw_in k at sum → c.general.words ≡ words → (x : Progress) → x.cpu ≡ c → x.text ≡ short_text first second
        → (a : ℕ) × (execute Bc x ≡ branch x bc_taken a) × (wrap (state k.psw) a ≡ wrap (state k.psw) total)
    unfolding execute branch_indexed
    bc_executes clock c same contents x of_cpu of_text = (
      indexed_address x,
      (λ i. branch x (selected (one i) (code i)) (indexed_address x)),
      ap (wrap (state k.psw)) (sym (indexed_here c same contents x of_cpu of_text)) ∙ wrap-wrap (state k.psw) total,
    )
      where
        one : r1 x ≡ registers / 16
        one = ap (λ u. bits 16 8 11 u.first) of_text ∙ field_one

        code : condition_code x.cpu ≡ code_in sum
        code = ap condition_code of_cpu ∙ coded_here storage keys kept k at sum ground c same

    module _ (is : op ≡ 0x47) where
      bc_by : (s : Step) → Effect Bc second s storage → Steps storage keys kept k at sum words s storage
      unfolding find has intercepts
      bc_by s = of_two (omega (arith, is)) (omega (arith, is)) Bc (λ b. rw is refl) refl (λ x. refl) s storage

      two_long : length_of first ≡ 2
      two_long = length_two first (omega (arith, byte, is)) (omega (arith, byte, is))

      pub bc_stays : bc_taken ≡ false → Steps storage keys kept k at sum words (step_to (at + 4) sum 16 0) storage
      bc_stays = not_taken Bc 2 second bc_by two_long bc_taken total bc_executes

      pub bc_goes : bc_taken ≡ true → total < nowhere → (top topAt : ℕ) → Top k top topAt
          → Steps storage keys kept k at sum words (branch_step at sum total top topAt) storage
      bc_goes = is_taken Bc 2 second bc_by two_long bc_taken total bc_executes

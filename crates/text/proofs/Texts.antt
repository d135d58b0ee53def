-- What is left to do of an instruction, by where its next halfword is found.
-- Assumes nothing.
use Rattle.std.specs.Prelude.{Err}
use Prim.Native.Nat.{ℕ, ◌+◌, ◌*◌, ◌-◌, ◌/◌, ◌%◌, ◌≤◌, ◌<◌}
use native.Mathlib.Nat.{add-zero}
use native.Mathlib.Omega.{arith}
use mathlib.Core.Path.{◌≡◌, refl, ap, sym, subst, ◌∙◌}
use mathlib.Core.Bool.{true, false}
use mathlib.Core.List.{List, ◌++◌, append-nil}
use borrow.Author.Tests.{lt-ltb, le-ltb, ne_eqb, eq-eqb}
use lib.Dec.{eqb, ltb}
use lib.ListN.{take, drop}
use lib.Seq.{get_or-take, get_or-drop}
use Rattle.machine.specs.declared.Cpu.{Cpu}
use Rattle.machine.specs.declared.Failure.{Failure}
use Rattle.machine.specs.declared.Guest.{Guest}
use Rattle.machine.specs.declared.Opcode.{Opcode}
use Rattle.machine.specs.declared.Psw.{Psw}
use Rattle.machine.specs.declared.Registers.{Registers}
use Rattle.machine.specs.declared.Text.{Text}
use Rattle.machine.specs.Words.{half_at}
use Rattle.machine.specs.Psw.{wrap, instruction_address}
use Rattle.machine.specs.Failures.{specification, exception_of}
use Rattle.machine.specs.Host.{Host, Located, places, backing, view, referenced, marked}
use Rattle.machine.specs.Addresses.{access, all, stopped, accesses, span, when_reached}
use Rattle.machine.specs.Opcodes.{opcode_of}
use Rattle.machine.specs.Outcomes.{Outcome, Progress}
use Rattle.machine.specs.Interruptions.{exception}
use Rattle.machine.specs.Units.{decoded, halfword, reading, first_text, second_text, third_text, half_of, opcode_in, fetch_third, fetch_second, instruction, started}
use Rattle.laws.proofs.PageBytes.{span_of_wrap, marked_append, referenced_twice}
use Rattle.address.specs.Touching.{seen}
use Rattle.marks.specs.Marks.{mark_frame}
use Rattle.operands.specs.Operands.{operand_of, Operand, in_pieces}
use Rattle.operands.proofs.Operands.{operand_shut, operand_open}
use Rattle.operands.proofs.Seen.{operand_seen}
use Rattle.interruptions.specs.declared.Frames.{Frames}
use Rattle.interruptions.specs.After.{Standing, mark_text}
use Rattle.text.specs.Fetching.{FetchedAs, Fetches, Halfword, no_frames, cut_short, whole}
use Rattle.text.specs.declared.Reading.{Reading}
use Rattle.text.proofs.Halfwords.{wrapped, even_address}

half_of_part : (s : List ℕ) (p q : ℕ) → half_at (take 2 (drop p s) ++ take (2 - 2) (drop q s)) 0 ≡ half_at s p
half_of_part s p q =
    rw (append-nil, get_or-take 2 (drop p s) 0 0 (omega arith), get_or-take 2 (drop p s) 1 0 (omega arith), get_or-drop p s 0 0, get_or-drop p s 1 0, add-zero p)

-- before anything is fetched, with any length code
pub standing_started : (h : Host) (g : Guest) (clock : ℕ) (c : Cpu) (ilc : ℕ) {text : Text} → text ≡ record { ilc = ilc; first = 0; second = 0; third = 0 }
    → Standing h (started g clock (view g h) c ilc) g clock c text no_frames
unfolding marked mark_text
standing_started h g clock c ilc none = record { of_guest = refl; of_clock = refl; of_view = refl; of_cpu = refl; of_text = sym none; marks = λ k. refl }

-- halfword n is read at p, by a unit in progress that had these frames
record Read (h : Host) (x : Progress) (g : Guest) (clock : ℕ) (c : Cpu) (t : Frames) (n p : ℕ) (ls : List Located) : Type 0 where
  reached : halfword x n ≡ all ls
  half : half_of ls ≡ half_at h.storage p
  stands : (text : Text) (t' : Frames) → ((k : List ℕ) → mark_frame referenced (p / 4096) (mark_text t k) ≡ mark_text t' k)
      → Standing h (reading x text ls) g clock c text t'

module _ {h : Host} {x : Progress} {g : Guest} {clock : ℕ} {c : Cpu} {text : Text} {t : Frames} (standing : Standing h x g clock c text t)
    {psw : Psw} {control : Registers} (of_psw : c.psw ≡ psw) (of_control : c.control ≡ control) (n : ℕ) {a : ℕ} where
  -- addressing looks at the PSW and the control registers alone
  there : {o : Operand} → Halfword h g (seen psw control) n a o → Halfword h g c n a o
  unfolding wrap
  there found = record {
    address = found.address ∙ ap (λ p. wrap (seen p control) (instruction_address (seen p control) + 2 * n)) (sym of_psw);
    even = found.even;
    sought =
        found.sought
        ∙ ap (λ k. operand_of g h (seen psw k) false a 2) (sym of_control)
        ∙ ap (λ p. operand_of g h (seen p c.control) false a 2) (sym of_psw)
        ∙ sym (operand_seen g h c false a 2);
  }

  at_address : {o : Operand} → Halfword h g c n a o → halfword x n ≡ accesses (access g (view g h) c false) (span c a 2)
  unfolding halfword
  at_address found =
      rw (standing.of_guest, standing.of_view, standing.of_cpu)
      (ap (accesses (access g (view g h) c false)) (sym (span_of_wrap c _ 2) ∙ ap (λ b. span c b 2) (sym found.address)))

  halfword_shut : {f : Failure} → Halfword h g (seen psw control) n a (Err f) → halfword x n ≡ stopped f
  halfword_shut found =
      let here = there found in
      at_address here ∙ operand_shut g h c false a 2 (wrapped here) (omega arith) (omega arith) (sym here.sought)

  halfword_open : {p : ℕ} → Halfword h g (seen psw control) n a (in_pieces p 2 0) → (ls : List Located) × Read h x g clock c t n p ls
  unfolding reading
  halfword_open {p} found =
      let here = there found in
      let (ls, reached, opened) = operand_open g h c false a 2 (wrapped here) (omega arith) (omega arith) (sym here.sought) in (
        ls,
        record {
          reached = at_address here ∙ reached;
          half = ap (λ bytes. half_at bytes 0) opened.fetched ∙ half_of_part h.storage p 0;
          stands = λ text' t' marks. record {
            of_guest = standing.of_guest;
            of_clock = standing.of_clock;
            of_view = standing.of_view;
            of_cpu = standing.of_cpu;
            of_text = refl;
            marks = λ k.
                marked_append (backing g h) referenced x.fetched (places ls) k
                ∙ opened.marks referenced referenced_twice _
                ∙ ap (mark_frame referenced (p / 4096)) (standing.marks k)
                ∙ marks k;
          };
        },
      )

  not_odd : {o : Operand} → Halfword h g (seen psw control) n a o → eqb (instruction_address x.cpu % 2) 1 ≡ false
  not_odd found = rw standing.of_cpu (ne_eqb (instruction_address c % 2) 1 (omega (arith, even_address (there found))))

module _ {h : Host} {x : Progress} {g : Guest} {clock : ℕ} {c : Cpu} {text : Text} {t : Frames} (standing : Standing h x g clock c text t) where
  -- the test of the text's length

  short : (m : ℕ) → text.ilc < m → ltb x.text.ilc m ≡ true
  short m less = lt-ltb _ m (subst (λ s. s.ilc < m) (sym standing.of_text) less)

  long : (m : ℕ) → m ≤ text.ilc → ltb x.text.ilc m ≡ false
  long m more = le-ltb _ m (subst (λ s. m ≤ s.ilc) (sym standing.of_text) more)

module _ {h : Host} {x : Progress} {g : Guest} {clock : ℕ} {c : Cpu} {text : Text} {t : Frames} (standing : Standing h x g clock c text t)
    {psw : Psw} (of_psw : c.psw ≡ psw) where
  -- the table is looked up for the architecture of the PSW

  architecture : x.cpu.psw.system370 ≡ psw.system370
  architecture = ap (λ k. k.psw.system370) standing.of_cpu ∙ ap (λ p. p.system370) of_psw

  opcode_in_lem : opcode_in x ≡ opcode_of psw.system370 text.first
  opcode_in_lem = λ i. opcode_of (architecture i) (standing.of_text i).first

-- the opcode by an equal one
with_opcode : {h : Host} {g : Guest} {clock : ℕ} {c : Cpu} {o : Outcome} {code code' : Opcode} (r : Reading) → code ≡ code'
    → FetchedAs h g clock c o code r → FetchedAs h g clock c o code' r
with_opcode {h} {g} {clock} {c} {o} r same fetched = subst (λ code. FetchedAs h g clock c o code r) same fetched

module _ {h : Host} {g : Guest} {psw : Psw} {control : Registers} (text : Text) (t : Frames) where
  -- the instruction is shorter
  pub second_spare : text.ilc < 2 → Fetches h g psw control text t fetch_second (opcode_of psw.system370 text.first) (whole text t)
  unfolding fetch_second
  second_spare less x clock c of_psw of_control standing =
      (x, standing, rw (short standing 2 less) (ap (decoded x) (opcode_in_lem standing of_psw)))

  pub third_spare : text.ilc < 3 → Fetches h g psw control text t fetch_third (opcode_of psw.system370 text.first) (whole text t)
  unfolding fetch_third
  third_spare less x clock c of_psw of_control standing =
      (x, standing, rw (short standing 3 less) (ap (decoded x) (opcode_in_lem standing of_psw)))

  -- an odd address
  pub first_odd : (code : Opcode) → instruction_address (seen psw control) % 2 ≡ 1
      → Fetches h g psw control text t instruction code (cut_short (exception_of specification) text t)
  unfolding instruction
  first_odd code odd x clock c of_psw of_control standing =
      let same : instruction_address x.cpu ≡ instruction_address (seen psw control) =
      ap (λ k. instruction_address k) standing.of_cpu ∙ ap (λ p. instruction_address (seen p control)) of_psw in
      (x, standing, rw (same, eq-eqb _ 1 odd) (ap (λ k. exception x k (exception_of specification)) standing.of_cpu))

  -- the next halfword cannot be read
  module _ (code : Opcode) (f : Failure) {a : ℕ} where
    pub first_shut : Halfword h g (seen psw control) 0 a (Err f) → Fetches h g psw control text t instruction code (cut_short f text t)
    unfolding instruction when_reached
    first_shut found x clock c of_psw of_control standing =
        (x, standing, rw (not_odd standing of_psw of_control 0 found, halfword_shut standing of_psw of_control 0 found) (ap (λ k. exception x k f) standing.of_cpu))

    pub second_shut : 2 ≤ text.ilc → Halfword h g (seen psw control) 1 a (Err f) → Fetches h g psw control text t fetch_second code (cut_short f text t)
    unfolding fetch_second when_reached
    second_shut more found x clock c of_psw of_control standing =
        (x, standing, rw (long standing 2 more, halfword_shut standing of_psw of_control 1 found) (ap (λ k. exception x k f) standing.of_cpu))

    pub third_shut : 3 ≤ text.ilc → Halfword h g (seen psw control) 2 a (Err f) → Fetches h g psw control text t fetch_third code (cut_short f text t)
    unfolding fetch_third when_reached
    third_shut more found x clock c of_psw of_control standing =
        (x, standing, rw (long standing 3 more, halfword_shut standing of_psw of_control 2 found) (ap (λ k. exception x k f) standing.of_cpu))

  -- the next halfword stands at p, and its frame is among the frames from then on
  module _ (p : ℕ) {a : ℕ} (t' : Frames) (marks : (k : List ℕ) → mark_frame referenced (p / 4096) (mark_text t k) ≡ mark_text t' k) where
    pub first_open : (text' : Text) (code : Opcode) (r : Reading) → Halfword h g (seen psw control) 0 a (in_pieces p 2 0)
        → text' ≡ first_text psw.system370 (half_at h.storage p) → code ≡ opcode_of psw.system370 text'.first
        → Fetches h g psw control text' t' fetch_second (opcode_of psw.system370 text'.first) r → Fetches h g psw control text t instruction code r
    unfolding instruction when_reached
    first_open text' code r found isText known rest x clock c of_psw of_control standing =
        let (ls, read) = halfword_open standing of_psw of_control 0 found in
        let (y, stands, same) = with_opcode r (sym known) (rest _ clock c of_psw of_control (read.stands text' t' marks)) in
        let step : instruction x ≡ fetch_second (reading x text' ls) =
        rw (not_odd standing of_psw of_control 0 found, read.reached, isText) (λ i. fetch_second (reading x (first_text (architecture standing of_psw i) (read.half i)) ls)) in
        (y, stands, step ∙ same)

    pub second_open : (text' : Text) (r : Reading) → 2 ≤ text.ilc → Halfword h g (seen psw control) 1 a (in_pieces p 2 0)
        → text' ≡ second_text text (half_at h.storage p) → Fetches h g psw control text' t' fetch_third (opcode_of psw.system370 text'.first) r
        → Fetches h g psw control text t fetch_second (opcode_of psw.system370 text.first) r
    unfolding fetch_second when_reached
    second_open text' r more found isText rest x clock c of_psw of_control standing =
        let (ls, read) = halfword_open standing of_psw of_control 1 found in
        let (y, stands, same) = with_opcode r (ap (λ u. opcode_of psw.system370 u.first) isText) (rest _ clock c of_psw of_control (read.stands text' t' marks)) in
        let step : fetch_second x ≡ fetch_third (reading x text' ls) =
        rw (long standing 2 more, read.reached, isText) (λ i. fetch_third (reading x (second_text (standing.of_text i) (read.half i)) ls)) in
        (y, stands, step ∙ same)

    pub third_open : 3 ≤ text.ilc → Halfword h g (seen psw control) 2 a (in_pieces p 2 0)
        → Fetches h g psw control text t fetch_third (opcode_of psw.system370 text.first) (whole (third_text text (half_at h.storage p)) t')
    unfolding fetch_third when_reached
    third_open more found x clock c of_psw of_control standing =
        let (ls, read) = halfword_open standing of_psw of_control 2 found in (
          reading x (third_text text (half_at h.storage p)) ls,
          read.stands _ t' marks,
          rw (long standing 3 more, read.reached) (λ i. decoded (reading x (third_text (standing.of_text i) (read.half i)) ls) (opcode_in_lem standing of_psw i)),
        )

-- `turns::passed` meets its contract.
use native.Mathlib.Omega.{arith}
use mathlib.Core.Path.{◌≡◌, refl, sym, ◌∙◌}
use mathlib.Core.Bool.{true, false}
use mathlib.Core.Logic.{inl, inr}
use borrow.Author.Rules.{rules}
use Rattle.special.specs.declared.Change.{Change}
use Rattle.special.specs.declared.Change.TheVariants.{Calm, Called, Changed}
use Rattle.execute.proofs.Reaching.{not_both}
use Rattle.turns.specs.Turning.{is_calm, ByChange}
use Rattle.turns.proofs.Rising.{residue_below, residue-charged}
use Rattle.turns.proofs.passed.Goals as goal

-- by what the unit changed

calmed : (change : Change) {P : Type 0} (Q : Type 0) → is_calm change ≡ true → P → ByChange change P Q
calmed Calm Q is p = p
calmed Called Q is p = not_both is refl
calmed Changed Q is p = not_both is refl

more : (change : Change) (P : Type 0) {Q : Type 0} → is_calm change ≡ false → Q → ByChange change P Q
more Calm P is q = not_both refl is
more Called P is q = q
more Changed P is q = q

pub returns-then-calmly : goal.returns-then-calmly
returns-then-calmly c =
    let d = c.in-Ok.done in
    rw c.in-Ok.is (record {
      idle = tt;
      done = (
        record {
          left = search rules;
          right = search rules;
          psw = refl;
          timer = c.timer_after-timer.ensures;
          charged = record { clock = c.clock_after-clock.ensures; rises = c.residue_after-residue.ensures.0; stays = c.residue_after-residue.ensures.1; units = refl };
          tries = refl;
        },
        calmed d.change _ (sym c.calmly.ensures ∙ c.if-calmly.true) (refl, (refl, refl, refl)),
      );
      small = tt;
    })

pub rising-rising-requires : goal.rising-rising-requires
rising-rising-requires c =
    (residue-charged c.args.timed c.args.s.residue c.args.time 1 _ c.requires.residue_lt_period.0 c.requires.residue_lt_period.2 c.residue_after-residue.ensures, c.requires.residue_lt_period.1)

pub returns-then-guarded_alike : goal.returns-then-guarded_alike
returns-then-guarded_alike c =
    let d = c.in-Ok.done in
    let rising = c.rising-rising in
    let horizon = c.horizon-most in
    rw c.in-Ok.is (record {
      idle = tt;
      done = (
        record {
          left = search rules;
          right = search rules;
          psw = refl;
          timer = c.timer_after-timer.ensures;
          charged = record { clock = c.clock_after-clock.ensures; rises = c.residue_after-residue.ensures.0; stays = c.residue_after-residue.ensures.1; units = refl };
          tries = refl;
        },
        more d.change _ (sym c.calmly.ensures ∙ c.if-calmly.false) (
          record {
            within = omega (arith, rising.ensures.0, horizon.ensures.0, c.requires.sixteen.1);
            rising = λ runs. residue_below _ c.args.time horizon.result rising.result horizon.ensures.0 (rising.ensures.1 runs);
            wrapped = horizon.ensures.1;
            calm = horizon.ensures.2;
          },
          inl (c.guarded_alike.ensures c.if-guarded_alike.true, (refl, refl, refl)),
        ),
      );
      small = c.next_behind.ensures;
    })

pub returns : goal.returns
returns c =
    let d = c.in-Ok.done in
    let rising = c.rising-rising in
    let horizon = c.horizon-most in
    rw c.in-Ok.is (record {
      idle = tt;
      done = (
        record {
          left = search rules;
          right = search rules;
          psw = refl;
          timer = c.timer_after-timer.ensures;
          charged = record { clock = c.clock_after-clock.ensures; rises = c.residue_after-residue.ensures.0; stays = c.residue_after-residue.ensures.1; units = refl };
          tries = refl;
        },
        more d.change _ (sym c.calmly.ensures ∙ c.if-calmly.false) (
          record {
            within = omega (arith, rising.ensures.0, horizon.ensures.0, c.requires.sixteen.1);
            rising = λ runs. residue_below _ c.args.time horizon.result rising.result horizon.ensures.0 (rising.ensures.1 runs);
            wrapped = horizon.ensures.1;
            calm = horizon.ensures.2;
          },
          inr (omega arith, refl),
        ),
      );
      small = tt;
    })

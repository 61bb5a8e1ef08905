-- What holds of each of the five fields, by one test that is computed over all of them.
-- Assumes nothing.
use mathlib.Core.Path.{◌≡◌, refl}
use mathlib.Core.Bool.{Bool, true, false, ◌&&◌}
use Prim.Native.Nat.{ℕ, ◌+◌, ◌*◌, ◌/◌, ◌≤◌, ◌<◌}
use native.Mathlib.Omega.{arith}
use lib.Dec.{eqb, leb}
use borrow.Author.Tests.{leb-true, eqb-true}
use Rattle.bits.specs.Tests.{any, all, up_from}
use Rattle.bits.proofs.TestLaws.{and_trues, all_up, none_at}
use Rattle.rules.specs.declared.fields.Field.{Field}
use Rattle.rules.specs.Field.{fields, field_at}

-- the value stands in whole bytes within the first 13, and the length at byte 13 + f
pub record SoundField (f : ℕ) : Type 0 where
  pub inside : (field_at f).start + (field_at f).width / 8 ≤ 13
  pub whole : 8 * ((field_at f).width / 8) ≡ (field_at f).width
  pub narrow : (field_at f).width ≤ 32
  pub lengths : (field_at f).length_at ≡ 13 + f

sound : ℕ → Bool
sound f =
    leb ((field_at f).start + (field_at f).width / 8) 13
    && (eqb (8 * ((field_at f).width / 8)) (field_at f).width && (leb (field_at f).width 32 && eqb (field_at f).length_at (13 + f)))

every_sound : all sound (up_from 0 5) ≡ true
unfolding all up_from sound
every_sound = refl

pub field_sound : (f : ℕ) → f < 5 → SoundField f
unfolding sound
field_sound f h =
    let a = and_trues _ _ (all_up sound 0 5 every_sound f (omega arith) (omega arith)) in
    let b = and_trues _ _ a.1 in
    let d = and_trues _ _ b.1 in
    record {
      inside = leb-true _ _ a.0;
      whole = eqb-true _ _ b.0;
      narrow = leb-true _ _ d.0;
      lengths = eqb-true _ _ d.1;
    }

-- where no field passes a test, field f does not
pub field_none : (test : Field → Bool) (f : ℕ) → f < 5 → any test fields ≡ false → test (field_at f) ≡ false
field_none test f inside e = none_at test fields (field_at 5) f e inside

-- `go_down_all` meets its contract: the walks so far, up to one that meets damage.
use mathlib.Core.Path.{◌≡◌, refl, sym, ap, ◌∙◌}
use mathlib.Core.List.{List, [], ◌∷◌}
use Prim.Native.Nat.{ℕ}
use Rattle.std.specs.Prelude.{Option, None, Some}
use Rattle.area.specs.Shape.{desk_shape}
use Rattle.index.specs.Key.{Key}
use Rattle.lookup.specs.Walk.{walk, ends}
use Rattle.lookup.specs.InCode.{key_at}
use Rattle.lookup.proofs.WalkLaws.{ends_bad, ends_worse, ends_more}
use Rattle.lookup.proofs.FieldTurns.{keys_of, five_keys}
use Rattle.lookup.proofs.walk.go_down_all.Goals as goal

-- the walks in some fields of a header
module _ (area header : List ℕ) where
  from : List Key → Option (List ℕ)
  from ks = ends desk_shape area ks

  last : (f : ℕ) (ks : List Key) → None ≡ walk desk_shape area (key_at header f) → from (key_at header f ∷ ks) ≡ None
  unfolding from
  last f ks e = ends_bad desk_shape area (key_at header f) ks (sym e)

  worse : (f : ℕ) (ks : List Key) {n : ℕ} → Some n ≡ walk desk_shape area (key_at header f) → from ks ≡ None → from (key_at header f ∷ ks) ≡ None
  unfolding from
  worse f ks {n} e = ends_worse desk_shape area (key_at header f) ks n (sym e)

  more : (f : ℕ) (ks : List Key) {n : ℕ} {ms : List ℕ} → Some n ≡ walk desk_shape area (key_at header f) → from ks ≡ Some ms → from (key_at header f ∷ ks) ≡ Some (n ∷ ms)
  unfolding from
  more f ks {n} {ms} e = ends_more desk_shape area (key_at header f) ks n ms (sym e)

  done : from [] ≡ Some []
  unfolding from ends
  done = refl

  -- of all five fields
  told : {o : Option (List ℕ)} → from (key_at header 0 ∷ key_at header 1 ∷ key_at header 2 ∷ key_at header 3 ∷ key_at header 4 ∷ []) ≡ o → o ≡ ends desk_shape area (keys_of header)
  unfolding from
  told e = sym (ap (ends desk_shape area) (five_keys header) ∙ e)

pub returns-in_err-source-clause-ends : goal.returns-in_err-source-clause-ends
returns-in_err-source-clause-ends c = c.from_residual.ensures ∙ told _ _ (last _ _ 0 _ c.in_err-source.ensures.end)

pub returns-in_err-destination-clause-ends : goal.returns-in_err-destination-clause-ends
returns-in_err-destination-clause-ends c = c.from_residual-in_err-destination.ensures ∙ told _ _ (worse _ _ 0 _ c.in_ok-source.ensures.end (last _ _ 1 _ c.in_err-destination.ensures.end))

pub returns-in_err-sport-clause-ends : goal.returns-in_err-sport-clause-ends
returns-in_err-sport-clause-ends c = c.from_residual-in_err-sport.ensures ∙ told _ _ (worse _ _ 0 _ c.in_ok-source.ensures.end (worse _ _ 1 _ c.in_ok-destination.ensures.end (last _ _ 2 _ c.in_err-sport.ensures.end)))

pub returns-in_err-dport-clause-ends : goal.returns-in_err-dport-clause-ends
returns-in_err-dport-clause-ends c = c.from_residual-in_err-dport.ensures ∙ told _ _ (worse _ _ 0 _ c.in_ok-source.ensures.end (worse _ _ 1 _ c.in_ok-destination.ensures.end (worse _ _ 2 _ c.in_ok-sport.ensures.end (last _ _ 3 _ c.in_err-dport.ensures.end))))

pub returns-in_err-protocol-clause-ends : goal.returns-in_err-protocol-clause-ends
returns-in_err-protocol-clause-ends c = c.from_residual-in_err-protocol.ensures ∙ told _ _ (worse _ _ 0 _ c.in_ok-source.ensures.end (worse _ _ 1 _ c.in_ok-destination.ensures.end (worse _ _ 2 _ c.in_ok-sport.ensures.end (worse _ _ 3 _ c.in_ok-dport.ensures.end (last _ _ 4 _ c.in_err-protocol.ensures.end)))))

pub returns-clause-ends : goal.returns-clause-ends
returns-clause-ends c = told _ _ (more _ _ 0 _ c.in_ok-source.ensures.end (more _ _ 1 _ c.in_ok-destination.ensures.end (more _ _ 2 _ c.in_ok-sport.ensures.end (more _ _ 3 _ c.in_ok-dport.ensures.end (more _ _ 4 _ c.in_ok-protocol.ensures.end (done _ c.args.header.now))))))

-- The ways to satisfy the statement of `pairs`: a refused table, a short list, and the list written.
-- Assumes nothing.
use Rattle.std.specs.Prelude.{Ok, Err}
use mathlib.Core.Path.{◌≡◌, refl}
use mathlib.Core.List.{List, [], ◌∷◌, ◌++◌}
use Prim.Native.Nat.{ℕ, ◌*◌, ◌≤◌, ◌<◌}
use lib.ListN.{length, drop}
use Rattle.rules.specs.declared.Refusal.{Refusal}
use Rattle.rules.specs.declared.Refusal.TheVariants.{ShortList}
use Rattle.rules.specs.Refusal.{told, said}
use Rattle.rules.specs.Table.{rules_of, verdict, Accepted}
use Rattle.overlap.specs.Pairs.{pairs_of, entries}
use Rattle.desk.specs.PairsCall.{pair_count, pairs_said, pairs_left, Pairs}
use Rattle.desk.proofs.LentLaws.{room_refused, room_short, room_done}

module _ (table list : List ℕ) where
  -- what the call writes where it is done
  abbrev written : List ℕ
  written = entries (pairs_of (rules_of table)) ++ drop (2 * pair_count table) list

  plain : said ShortList ≡ 10 ∷ []
  unfolding said
  plain = refl

  pub refused_pairs : (r : Refusal) → said r ≡ verdict table → Pairs table list (Err r) list
  unfolding told pairs_said pairs_left
  refused_pairs r e =
      let w = room_refused table list written ShortList 10 (2 * pair_count table) (pair_count table) plain r e in
      record { answer = w.0; lent = w.1 }

  pub short_pairs : Accepted table → length list < 2 * pair_count table → Pairs table list (Err ShortList) list
  unfolding told pairs_said pairs_left
  short_pairs ok h =
      let w = room_short table list written ShortList 10 (2 * pair_count table) (pair_count table) plain ok h in
      record { answer = w.0; lent = w.1 }

  pub listed_pairs : Accepted table → 2 * pair_count table ≤ length list → Pairs table list (Ok (pair_count table)) written
  unfolding told pairs_said pairs_left
  listed_pairs ok h =
      let w = room_done table list written ShortList 10 (2 * pair_count table) (pair_count table) plain ok h in
      record { answer = w.0; lent = w.1 }

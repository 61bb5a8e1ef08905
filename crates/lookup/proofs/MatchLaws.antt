-- Of an accepted table, what the keys of a header hit is what the spans have: the two ways to say that a rule matches agree.
-- Assumes nothing.
use mathlib.Core.Path.{◌≡◌, refl, sym, ap, ◌∙◌}
use mathlib.Core.List.{List, map}
use Prim.Native.Nat.{ℕ, zero, suc, ◌+◌, ◌^◌, ◌≤◌, ◌<◌}
use native.Mathlib.Omega.{arith}
use lib.ListN.{length, get_or}
use Rattle.bits.specs.Number.{Bytes}
use Rattle.bits.specs.Path.{bits}
use Rattle.bits.specs.Tests.{all, up_from}
use Rattle.bits.proofs.ListLaws.{all_map}
use Rattle.bits.proofs.EachLaws.{get_d_map, all_agree, map_agree}
use Rattle.rules.specs.Field.{fields, field_at, value_in}
use Rattle.rules.specs.Rule.{rule_of}
use Rattle.rules.specs.Table.{rule_count, record_at, rules_of, Accepted}
use Rattle.rules.specs.Header.{header_size, header_values}
use Rattle.rules.specs.Match.{matches, no_rule, rule_at, matches_in}
use Rattle.rules.proofs.TableLaws.{length_record, accepted_sound}
use Rattle.rules.proofs.RuleLaws.{value_small, agreement}
use Rattle.rules.proofs.MatchLaws.{rules_size, rules_at, record_bytes, matches_in_lem}
use Rattle.index.specs.Key.{Key, at, hit}
use Rattle.index.proofs.OrderLaws.{KeysWithin}
use Rattle.lookup.specs.Look.{keys_from, header_keys, widths}
use Rattle.lookup.proofs.HeldLaws.{hit_all}

-- ---- a header's keys

-- the key of field f
abbrev pub key_in : List ℕ → ℕ → Key
key_in values f = at f (bits (field_at f).width (get_or values f 0))

pub keys_in : (header : List ℕ) → header_keys widths (header_values header) ≡ map (key_in (header_values header)) (up_from 0 5)
unfolding header_keys keys_from header_values up_from
keys_in header = refl

-- they are of the five fields
keys_up : (values : List ℕ) (n k m : ℕ) → k + m ≤ n → KeysWithin n (map (key_in values) (up_from k m))
unfolding up_from
keys_up values n k zero h = tt
keys_up values n k (suc m) h = (omega arith, keys_up values n (suc k) m (omega arith))

pub keys_within : (values : List ℕ) → KeysWithin 5 (map (key_in values) (up_from 0 5))
keys_within values = keys_up values 5 0 5 (omega arith)

-- ---- an accepted table and a header

module _ (table : List ℕ) (b : Bytes table) (sound : Accepted table) (header : List ℕ) (c : Bytes header) (right : length header ≡ header_size) where
  -- the key of a field hits a rule exactly when the rule has the header's value there
  pub hit_in : (f : ℕ) → f < 5 → (place : ℕ) → place < rule_count table
      → hit (key_in (header_values header) f) (rule_at (rules_of table) place) ≡ matches_in (header_values header) f (rule_at (rules_of table) place)
  unfolding hit matches_in header_values
  hit_in f hf place h =
      let whole = length_record table place (omega arith) in
      let value : get_or (header_values header) f 0 ≡ value_in header (field_at f) = get_d_map (value_in header) fields f 0 (field_at 5) hf in
      let small : get_or (header_values header) f 0 < 2 ^ (field_at f).width = rw value (value_small header c (omega arith) f hf) in
      rw (rules_at table place h)
      (agreement (record_at table place) (record_bytes table b place) whole ((accepted_sound table sound).faultless place h) f hf (get_or (header_values header) f 0) small)

  -- all keys hit a rule exactly when it matches
  pub hit_matches : (place : ℕ) → place < rule_count table
      → hit_all (header_keys widths (header_values header)) (rule_at (rules_of table) place) ≡ matches (header_values header) (rule_at (rules_of table) place)
  unfolding hit_all
  hit_matches place h =
      let values = header_values header in
      let r = rule_at (rules_of table) place in
      let spans : length r.spans ≡ length values = rw (rules_at table place h) (unfold rule_of header_values in refl) in
      ap (all (λ k. hit k r)) (keys_in header)
      ∙ all_map (λ k. hit k r) (key_in values) (up_from 0 5)
      ∙ all_agree (λ f. hit (key_in values f) r) (λ f. matches_in values f r) 0 5 (λ f hf. hit_in f (omega arith) place h)
      ∙ sym (matches_in_lem values r spans ∙ unfold header_values in refl)

  -- so over the whole table
  pub hits_in : (f : ℕ) → f < 5 → map (hit (key_in (header_values header) f)) (rules_of table) ≡ map (matches_in (header_values header) f) (rules_of table)
  hits_in f hf =
      map_agree (hit (key_in (header_values header) f)) (matches_in (header_values header) f) (rules_of table) no_rule
      (λ place h. hit_in f hf place (omega (arith, rules_size table)))

  pub hits_match : map (hit_all (header_keys widths (header_values header))) (rules_of table) ≡ map (matches (header_values header)) (rules_of table)
  hits_match =
      map_agree (hit_all (header_keys widths (header_values header))) (matches (header_values header)) (rules_of table) no_rule
      (λ place h. hit_matches place (omega (arith, rules_size table)))

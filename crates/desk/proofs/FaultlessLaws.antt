-- A faultless rule and a faultless table, in the words of the promises: a table is accepted exactly when it is faultless, and a
-- fault is given at a place exactly when the words say so.
-- Assumes nothing.
use mathlib.Core.Path.{◌≡◌, ap}
use mathlib.Core.Logic.{◌↔◌}
use mathlib.Core.Bool.{false}
use mathlib.Core.List.{List}
use Prim.Native.Nat.{ℕ, ◌<◌}
use native.Mathlib.Omega.{arith}
use lib.ListN.{length}
use Rattle.bits.proofs.TestLaws.{clash, refuted}
use Rattle.rules.specs.Field.{protocol}
use Rattle.rules.specs.Action.{action_in, is_unknown}
use Rattle.rules.specs.Table.{record_size, rule_count, record_at, unknown_action, fault, Accepted}
use Rattle.rules.proofs.ActionLaws.{unknown}
use Rattle.rules.proofs.TableLaws.{faultless, length_record, accepted_sound, sound_accepted}
use Rattle.rules.proofs.FaultLaws.{FaultAt, unknown_exact}
use Rattle.rules.proofs.TestWords.{long_exact, rest_exact, spare_exact, faultless_fault, fifth_exact, fourteenth_exact}
use Rattle.rules.proofs.PortLaws.{port_refused, port_passed}
use Rattle.desk.specs.Terms.{NoAction, FaultlessRule, FaultlessTable, FirstAt, UnknownFault, PortFault}

-- ---- a rule

known_exact : (rule : List ℕ) → (unknown_action rule ≡ false) ↔ (NoAction rule → ⊥)
unfolding unknown_action action_in is_unknown
known_exact rule = (
  λ e none_there. clash (ap is_unknown ((unknown_exact _ _).1 none_there)) e,
  λ some. refuted (unknown_action rule) (λ e. some ((unknown_exact _ _).0 (unknown (action_in rule) e))),
)

faultless_rule : (rule : List ℕ) → length rule ≡ record_size → (fault rule ≡ 0) ↔ FaultlessRule rule
faultless_rule rule whole = (
  λ e.
      let f = faultless rule e in
      record {
        lengths = (long_exact rule).0 f.short;
        rest = (rest_exact rule).0 f.clean;
        action = (known_exact rule).0 f.known;
        spare = (spare_exact rule whole).0 f.spare;
        ports = (port_passed rule ((long_exact rule).0 f.short protocol (omega arith))).0 f.carried;
      },
  λ r.
      faultless_fault rule (record {
        short = (long_exact rule).1 r.lengths;
        clean = (rest_exact rule).1 r.rest;
        known = (known_exact rule).1 r.action;
        spare = (spare_exact rule whole).1 r.spare;
        carried = (port_passed rule (r.lengths protocol (omega arith))).1 r.ports;
      }),
)

-- ---- a table

record_whole : (table : List ℕ) (place : ℕ) → place < rule_count table → length (record_at table place) ≡ record_size
record_whole table place inside = length_record table place (omega arith)

pub accepted_exact : (table : List ℕ) → Accepted table ↔ FaultlessTable table
accepted_exact table = (
  λ ok.
      let s = accepted_sound table ok in
      record {
        whole = s.whole;
        few = s.few;
        rules = λ place h. (faultless_rule (record_at table place) (record_whole table place h)).0 (s.faultless place h);
      },
  λ t.
      sound_accepted table (record {
        whole = t.whole;
        few = t.few;
        faultless = λ place h. (faultless_rule (record_at table place) (record_whole table place h)).1 (t.rules place h);
      }),
)

-- ---- the fault at a place

-- n is the number of a fault: what `fault` gives a whole record exactly when that fault is its first
abbrev pub Numbers : ℕ → (List ℕ → Type 0) → Type 0
Numbers n Fault = (rule : List ℕ) → length rule ≡ record_size → (fault rule ≡ n) ↔ Fault rule

module _ {Fault : List ℕ → Type 0} {n : ℕ} (exact : Numbers n Fault) (table : List ℕ) (place : ℕ) where
  pub first_at : FaultAt table n place ↔ FirstAt Fault table place
  first_at = (
    λ f. record {
      whole = f.whole;
      few = f.few;
      inside = f.inside;
      lower = λ j h. (faultless_rule (record_at table j) (record_whole table j (omega (arith, f.inside)))).0 (f.earlier j h);
      first = (exact (record_at table place) (record_whole table place f.inside)).0 f.first;
    },
    λ f. record {
      whole = f.whole;
      few = f.few;
      inside = f.inside;
      earlier = λ j h. (faultless_rule (record_at table j) (record_whole table j (omega (arith, f.inside)))).1 (f.lower j h);
      first = (exact (record_at table place) (record_whole table place f.inside)).1 f.first;
    },
  )

-- ---- the faults by their numbers

pub unknown_numbered : Numbers 5 UnknownFault
unfolding action_in
unknown_numbered rule whole = (
  λ e.
      let t = (fifth_exact rule).0 e in
      record { lengths = (long_exact rule).0 t.0; rest = (rest_exact rule).0 t.1; no_action = (unknown_exact _ _).0 t.2 },
  λ u. (fifth_exact rule).1 ((long_exact rule).1 u.lengths, (rest_exact rule).1 u.rest, (unknown_exact _ _).1 u.no_action),
)

pub port_numbered : Numbers 14 PortFault
port_numbered rule whole = (
  λ e.
      let t = (fourteenth_exact rule).0 e in
      let lengths = (long_exact rule).0 t.0 in
      let port = (port_refused rule (lengths protocol (omega arith))).0 t.4 in
      record {
        lengths = lengths;
        rest = (rest_exact rule).0 t.1;
        action = (known_exact rule).0 t.2;
        spare = (spare_exact rule whole).0 t.3;
        asks = port.0;
        no_ports = port.1;
      },
  λ p.
      (fourteenth_exact rule).1 (
        (long_exact rule).1 p.lengths,
        (rest_exact rule).1 p.rest,
        (known_exact rule).1 p.action,
        (spare_exact rule whole).1 p.spare,
        (port_refused rule (p.lengths protocol (omega arith))).1 (p.asks, p.no_ports),
      ),
)

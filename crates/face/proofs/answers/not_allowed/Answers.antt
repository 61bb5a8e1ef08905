-- `not_allowed` meets its contract: what it says is the pair and then the bytes of the header's five values.
use Rattle.face.proofs.ByteLaws.{crossing_bytes}
use Rattle.face.proofs.answers.not_allowed.Goals as goal

pub returns : goal.returns
returns c =
    rw (
      crossing_bytes c.args.crossing _ _ _ _ c.four_bytes-source.ensures c.four_bytes-destination.ensures c.two_bytes-sport.ensures c.two_bytes-dport.ensures,
      ← c.from.ensures,
      ← c.from-2.ensures,
      ← c.from-3.ensures,
      ← c.from-4.ensures,
      ← c.from-5.ensures,
      ← c.from-6.ensures,
      ← c.from-7.ensures,
      ← c.from-8.ensures,
      ← c.from-9.ensures,
      ← c.from-10.ensures,
      ← c.from-11.ensures,
      ← c.from-12.ensures,
      ← c.from-13.ensures,
    )
    c.carrying.ensures

-- A growing area, as the states that its steps lead through.
-- Assumes nothing.
use Rattle.std.specs.Prelude.{◌≡◌, ℕ, length}
use Rattle.area.specs.declared.grow.Growth.{Growth}
use Rattle.area.specs.Grow.{State, mk, Roomy}

-- the state of a growing area, where a walk stands at record t
abbrev pub standing : Growth → ℕ → State
standing g t = mk g.words.now t g.next

-- a growing area has the words and the next record of a state
abbrev pub IsGrown : Growth → State → Type 0
IsGrown g s = (g.words.now ≡ s.area) × (g.next ≡ s.next)

-- the area has room for what leads to a state
abbrev pub HasRoom : Growth → State → Type 0
HasRoom g s = Roomy s (length g.words.now)

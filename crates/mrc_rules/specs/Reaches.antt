-- Rules 5.10 and 6.2: how far an instruction goes, by its first byte and, where that leaves it to reg, by reg: a second account beside the rows.
use Rattle.std.specs.Prelude.{ℕ, List, [], ◌∷◌, ◌++◌, get_or}
use Rattle.mrc_instruction.specs.declared.instruction.Reach.{Reach}
use Rattle.mrc_instruction.specs.declared.instruction.Reach.TheVariants.{Neither, Near, Far}
use Rattle.mrc_rules.specs.Operands.{byte_at, reg_at}

pub data Distance : Type 0 where
  -- whatever reg is
  always : Reach → Distance
  -- one of eight
  by_reg : List Reach → Distance

abbrev pub neither : Distance
neither = always Neither

abbrev pub near : Distance
near = always Near

abbrev pub far : Distance
far = always Far

-- CALL is reg 2 and 3, JMP 4 and 5: with FE all are near, with FF every second is far
abbrev pub group_fe : Distance
group_fe = by_reg (Neither ∷ Neither ∷ Near ∷ Near ∷ Near ∷ Near ∷ Neither ∷ Neither ∷ [])

abbrev pub group_ff : Distance
group_ff = by_reg (Neither ∷ Neither ∷ Near ∷ Far ∷ Near ∷ Far ∷ Neither ∷ Neither ∷ [])

abbrev pub line : Distance → List Distance
line x = x ∷ x ∷ x ∷ x ∷ x ∷ x ∷ x ∷ x ∷ []

unfoldable pub distances : List Distance
distances =
    line neither  -- 00
    ++ line neither  -- 08
    ++ line neither  -- 10
    ++ line neither  -- 18
    ++ line neither  -- 20
    ++ line neither  -- 28
    ++ line neither  -- 30
    ++ line neither  -- 38
    ++ line neither  -- 40
    ++ line neither  -- 48
    ++ line neither  -- 50
    ++ line neither  -- 58
    ++ line neither  -- 60
    ++ line neither  -- 68
    ++ line neither  -- 70
    ++ line neither  -- 78
    ++ line neither  -- 80
    ++ line neither  -- 88
    ++ line neither  -- 90
    ++ (neither ∷ neither ∷ far ∷ neither ∷ neither ∷ neither ∷ neither ∷ neither ∷ [])  -- 98
    ++ line neither  -- A0
    ++ line neither  -- A8
    ++ line neither  -- B0
    ++ line neither  -- B8
    ++ (neither ∷ neither ∷ near ∷ near ∷ neither ∷ neither ∷ neither ∷ neither ∷ [])  -- C0
    ++ (neither ∷ neither ∷ far ∷ far ∷ neither ∷ neither ∷ neither ∷ neither ∷ [])  -- C8
    ++ line neither  -- D0
    ++ line neither  -- D8
    ++ line neither  -- E0
    ++ (near ∷ near ∷ far ∷ near ∷ neither ∷ neither ∷ neither ∷ neither ∷ [])  -- E8
    ++ line neither  -- F0
    ++ (neither ∷ neither ∷ neither ∷ neither ∷ neither ∷ neither ∷ group_fe ∷ group_ff ∷ [])  -- F8

-- how far the instruction goes whose bytes these are, from the opcode on
abbrev pub reach_at : List ℕ → Distance → Reach
reach_at l (always reach) = reach
reach_at l (by_reg reaches) = get_or reaches (reg_at l) Neither

abbrev pub reach_of : List ℕ → Reach
reach_of l = reach_at l (get_or distances (byte_at l 0) neither)

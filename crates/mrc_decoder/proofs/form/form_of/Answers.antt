-- Each arm: what its form says of its bytes is what they mean, which antt computes over the arm's keys or its range. The arms of one byte and of
-- several stand first, in the order of the dispatch; then the ranges.
-- Assumes nothing.
use Rattle.std.proofs.Common.{refl, ◌∙◌, ℕ, List, [], ◌∷◌, arith}
use mathlib.Core.Logic.{⊎_elim}
use Rattle.mrc_instruction.specs.declared.operand.OperandSize.TheVariants.{Byte, Word}
use Rattle.mrc_instruction.specs.declared.operation.Operation.TheVariants.{DEC, INC, POP, PUSH}
use Rattle.mrc_rules.specs.Table.{rows, row_of, escaped as escaped_in}
use Rattle.mrc_decoder.specs.declared.form.Form.{Form}
use Rattle.mrc_decoder.specs.declared.form.OpcodeAlone.{OpcodeAlone}
use Rattle.mrc_decoder.specs.declared.form.WithModRM.{WithModRM}
use Rattle.mrc_decoder.specs.Form.{reads, meant}
use Rattle.mrc_decoder.proofs.Arms.{ranged, keys}
use Rattle.mrc_decoder.proofs.form.form_of.Goals as goal

-- the single bytes of the dispatch, the last arm first
abbrev dispatched : List (List ℕ)
dispatched =
    (0xFD ∷ []) ∷ (0xFC ∷ []) ∷ (0xFB ∷ []) ∷ (0xFA ∷ []) ∷ (0xF9 ∷ []) ∷ (0xF8 ∷ []) ∷ (0xF7 ∷ []) ∷ (0xF6 ∷ []) ∷ (0xF5 ∷ []) ∷ (0xF4 ∷ []) ∷ (0xF3 ∷ []) ∷ (0xF2 ∷ []) ∷ (0xF1 ∷ []) ∷ (0xF0 ∷ []) ∷ (0xEB ∷ []) ∷ (0xE9 ∷ []) ∷ (0xE8 ∷ []) ∷ (0xE3 ∷ []) ∷ (0xE2 ∷ []) ∷ (0xE1 ∷ []) ∷ (0xE0 ∷ []) ∷ (0xD7 ∷ []) ∷ (0xD6 ∷ []) ∷ (0xD5 ∷ []) ∷ (0xD4 ∷ []) ∷ (0xD3 ∷ []) ∷ (0xD2 ∷ []) ∷ (0xD1 ∷ []) ∷ (0xD0 ∷ []) ∷ (0xCF ∷ []) ∷ (0xCE ∷ []) ∷ (0xCD ∷ []) ∷ (0xCC ∷ []) ∷ (0xCB ∷ []) ∷ (0xCA ∷ []) ∷ (0xC7 ∷ []) ∷ (0xC6 ∷ []) ∷ (0xC5 ∷ []) ∷ (0xC4 ∷ []) ∷ (0xC3 ∷ []) ∷ (0xC2 ∷ []) ∷ (0xC1 ∷ []) ∷ (0xC0 ∷ []) ∷ (0xB1 ∷ 0xB3 ∷ 0xB5 ∷ 0xB7 ∷ 0xB9 ∷ 0xBB ∷ 0xBD ∷ 0xBF ∷ []) ∷ (0xB0 ∷ 0xB2 ∷ 0xB4 ∷ 0xB6 ∷ 0xB8 ∷ 0xBA ∷ 0xBC ∷ 0xBE ∷ []) ∷ (0xAF ∷ []) ∷ (0xAE ∷ []) ∷ (0xAD ∷ []) ∷ (0xAC ∷ []) ∷ (0xAB ∷ []) ∷ (0xAA ∷ []) ∷ (0xA9 ∷ []) ∷ (0xA8 ∷ []) ∷ (0xA7 ∷ []) ∷ (0xA6 ∷ []) ∷ (0xA5 ∷ []) ∷ (0xA4 ∷ []) ∷ (0xA1 ∷ 0xA3 ∷ []) ∷ (0xA0 ∷ 0xA2 ∷ []) ∷ (0x9F ∷ []) ∷ (0x9E ∷ []) ∷ (0x9D ∷ []) ∷ (0x9C ∷ []) ∷ (0x9B ∷ []) ∷ (0x9A ∷ 0xEA ∷ []) ∷ (0x99 ∷ []) ∷ (0x98 ∷ []) ∷ (0x92 ∷ 0x94 ∷ 0x96 ∷ []) ∷ (0x91 ∷ 0x93 ∷ 0x95 ∷ 0x97 ∷ []) ∷ (0x90 ∷ []) ∷ (0x8F ∷ []) ∷ (0x8E ∷ []) ∷ (0x8D ∷ []) ∷ (0x8C ∷ []) ∷ (0x8B ∷ []) ∷ (0x8A ∷ []) ∷ (0x89 ∷ []) ∷ (0x88 ∷ []) ∷ (0x87 ∷ []) ∷ (0x86 ∷ []) ∷ (0x85 ∷ []) ∷ (0x84 ∷ []) ∷ (0x83 ∷ []) ∷ (0x81 ∷ []) ∷ (0x80 ∷ 0x82 ∷ []) ∷ (0x7F ∷ []) ∷ (0x7E ∷ []) ∷ (0x7D ∷ []) ∷ (0x7C ∷ []) ∷ (0x7B ∷ []) ∷ (0x7A ∷ []) ∷ (0x79 ∷ []) ∷ (0x78 ∷ []) ∷ (0x77 ∷ []) ∷ (0x76 ∷ []) ∷ (0x75 ∷ []) ∷ (0x74 ∷ []) ∷ (0x73 ∷ []) ∷ (0x72 ∷ []) ∷ (0x71 ∷ []) ∷ (0x70 ∷ []) ∷ (0x59 ∷ 0x5B ∷ 0x5D ∷ 0x5F ∷ []) ∷ (0x58 ∷ 0x5A ∷ 0x5C ∷ 0x5E ∷ []) ∷ (0x51 ∷ 0x53 ∷ 0x55 ∷ 0x57 ∷ []) ∷ (0x50 ∷ 0x52 ∷ 0x54 ∷ 0x56 ∷ []) ∷ (0x49 ∷ 0x4B ∷ 0x4D ∷ 0x4F ∷ []) ∷ (0x48 ∷ 0x4A ∷ 0x4C ∷ 0x4E ∷ []) ∷ (0x41 ∷ 0x43 ∷ 0x45 ∷ 0x47 ∷ []) ∷ (0x40 ∷ 0x42 ∷ 0x44 ∷ 0x46 ∷ []) ∷ (0x3F ∷ []) ∷ (0x3D ∷ []) ∷ (0x3C ∷ []) ∷ (0x3B ∷ []) ∷ (0x3A ∷ []) ∷ (0x39 ∷ []) ∷ (0x38 ∷ []) ∷ (0x37 ∷ []) ∷ (0x35 ∷ []) ∷ (0x34 ∷ []) ∷ (0x33 ∷ []) ∷ (0x32 ∷ []) ∷ (0x31 ∷ []) ∷ (0x30 ∷ []) ∷ (0x2F ∷ []) ∷ (0x2D ∷ []) ∷ (0x2C ∷ []) ∷ (0x2B ∷ []) ∷ (0x2A ∷ []) ∷ (0x29 ∷ []) ∷ (0x28 ∷ []) ∷ (0x27 ∷ []) ∷ (0x26 ∷ 0x2E ∷ 0x36 ∷ 0x3E ∷ []) ∷ (0x25 ∷ []) ∷ (0x24 ∷ []) ∷ (0x23 ∷ []) ∷ (0x22 ∷ []) ∷ (0x21 ∷ []) ∷ (0x20 ∷ []) ∷ (0x1D ∷ []) ∷ (0x1C ∷ []) ∷ (0x1B ∷ []) ∷ (0x1A ∷ []) ∷ (0x19 ∷ []) ∷ (0x18 ∷ []) ∷ (0x15 ∷ []) ∷ (0x14 ∷ []) ∷ (0x13 ∷ []) ∷ (0x12 ∷ []) ∷ (0x11 ∷ []) ∷ (0x10 ∷ []) ∷ (0x0D ∷ []) ∷ (0x0C ∷ []) ∷ (0x0B ∷ []) ∷ (0x0A ∷ []) ∷ (0x09 ∷ []) ∷ (0x08 ∷ []) ∷ (0x07 ∷ 0x0F ∷ 0x17 ∷ 0x1F ∷ []) ∷ (0x06 ∷ 0x0E ∷ 0x16 ∷ 0x1E ∷ []) ∷ (0x05 ∷ []) ∷ (0x04 ∷ []) ∷ (0x03 ∷ []) ∷ (0x02 ∷ []) ∷ (0x01 ∷ []) ∷ (0x00 ∷ []) ∷ []

pub returns-in-0 : goal.returns-in-0
unfolding row_of rows
returns-in-0 c = rw c.in-0.is

pub returns-in-1 : goal.returns-in-1
unfolding row_of rows
returns-in-1 c = rw c.in-1.is

pub returns-in-2 : goal.returns-in-2
unfolding row_of rows
returns-in-2 c = rw c.in-2.is

pub returns-in-3 : goal.returns-in-3
unfolding row_of rows
returns-in-3 c = rw c.in-3.is

pub returns-in-4 : goal.returns-in-4
unfolding row_of rows
returns-in-4 c = rw c.in-4.is

pub returns-in-5 : goal.returns-in-5
unfolding row_of rows
returns-in-5 c = rw c.in-5.is

pub returns-in-6 : goal.returns-in-6
unfolding row_of rows
returns-in-6 c = keys c.args.reading (0x06 ∷ 0x0E ∷ 0x16 ∷ 0x1E ∷ []) (meant (Form.OpcodeAlone (OpcodeAlone.OnSegment PUSH))) c.args.opcode refl c.in-6.is

pub returns-in-7 : goal.returns-in-7
unfolding row_of rows
returns-in-7 c = keys c.args.reading (0x07 ∷ 0x0F ∷ 0x17 ∷ 0x1F ∷ []) (meant (Form.OpcodeAlone (OpcodeAlone.OnSegment POP))) c.args.opcode refl c.in-7.is

pub returns-in-8 : goal.returns-in-8
unfolding row_of rows
returns-in-8 c = rw c.in-8.is

pub returns-in-9 : goal.returns-in-9
unfolding row_of rows
returns-in-9 c = rw c.in-9.is

pub returns-in-10 : goal.returns-in-10
unfolding row_of rows
returns-in-10 c = rw c.in-10.is

pub returns-in-11 : goal.returns-in-11
unfolding row_of rows
returns-in-11 c = rw c.in-11.is

pub returns-in-12 : goal.returns-in-12
unfolding row_of rows
returns-in-12 c = rw c.in-12.is

pub returns-in-13 : goal.returns-in-13
unfolding row_of rows
returns-in-13 c = rw c.in-13.is

pub returns-in-16 : goal.returns-in-16
unfolding row_of rows
returns-in-16 c = rw c.in-16.is

pub returns-in-17 : goal.returns-in-17
unfolding row_of rows
returns-in-17 c = rw c.in-17.is

pub returns-in-18 : goal.returns-in-18
unfolding row_of rows
returns-in-18 c = rw c.in-18.is

pub returns-in-19 : goal.returns-in-19
unfolding row_of rows
returns-in-19 c = rw c.in-19.is

pub returns-in-20 : goal.returns-in-20
unfolding row_of rows
returns-in-20 c = rw c.in-20.is

pub returns-in-21 : goal.returns-in-21
unfolding row_of rows
returns-in-21 c = rw c.in-21.is

pub returns-in-24 : goal.returns-in-24
unfolding row_of rows
returns-in-24 c = rw c.in-24.is

pub returns-in-25 : goal.returns-in-25
unfolding row_of rows
returns-in-25 c = rw c.in-25.is

pub returns-in-26 : goal.returns-in-26
unfolding row_of rows
returns-in-26 c = rw c.in-26.is

pub returns-in-27 : goal.returns-in-27
unfolding row_of rows
returns-in-27 c = rw c.in-27.is

pub returns-in-28 : goal.returns-in-28
unfolding row_of rows
returns-in-28 c = rw c.in-28.is

pub returns-in-29 : goal.returns-in-29
unfolding row_of rows
returns-in-29 c = rw c.in-29.is

pub returns-in-32 : goal.returns-in-32
unfolding row_of rows
returns-in-32 c = rw c.in-32.is

pub returns-in-33 : goal.returns-in-33
unfolding row_of rows
returns-in-33 c = rw c.in-33.is

pub returns-in-34 : goal.returns-in-34
unfolding row_of rows
returns-in-34 c = rw c.in-34.is

pub returns-in-35 : goal.returns-in-35
unfolding row_of rows
returns-in-35 c = rw c.in-35.is

pub returns-in-36 : goal.returns-in-36
unfolding row_of rows
returns-in-36 c = rw c.in-36.is

pub returns-in-37 : goal.returns-in-37
unfolding row_of rows
returns-in-37 c = rw c.in-37.is

pub returns-in-39 : goal.returns-in-39
unfolding row_of rows
returns-in-39 c = rw c.in-39.is

pub returns-in-40 : goal.returns-in-40
unfolding row_of rows
returns-in-40 c = rw c.in-40.is

pub returns-in-41 : goal.returns-in-41
unfolding row_of rows
returns-in-41 c = rw c.in-41.is

pub returns-in-42 : goal.returns-in-42
unfolding row_of rows
returns-in-42 c = rw c.in-42.is

pub returns-in-43 : goal.returns-in-43
unfolding row_of rows
returns-in-43 c = rw c.in-43.is

pub returns-in-44 : goal.returns-in-44
unfolding row_of rows
returns-in-44 c = rw c.in-44.is

pub returns-in-45 : goal.returns-in-45
unfolding row_of rows
returns-in-45 c = rw c.in-45.is

pub returns-in-47 : goal.returns-in-47
unfolding row_of rows
returns-in-47 c = rw c.in-47.is

pub returns-in-48 : goal.returns-in-48
unfolding row_of rows
returns-in-48 c = rw c.in-48.is

pub returns-in-49 : goal.returns-in-49
unfolding row_of rows
returns-in-49 c = rw c.in-49.is

pub returns-in-50 : goal.returns-in-50
unfolding row_of rows
returns-in-50 c = rw c.in-50.is

pub returns-in-51 : goal.returns-in-51
unfolding row_of rows
returns-in-51 c = rw c.in-51.is

pub returns-in-52 : goal.returns-in-52
unfolding row_of rows
returns-in-52 c = rw c.in-52.is

pub returns-in-53 : goal.returns-in-53
unfolding row_of rows
returns-in-53 c = rw c.in-53.is

pub returns-in-55 : goal.returns-in-55
unfolding row_of rows
returns-in-55 c = rw c.in-55.is

pub returns-in-56 : goal.returns-in-56
unfolding row_of rows
returns-in-56 c = rw c.in-56.is

pub returns-in-57 : goal.returns-in-57
unfolding row_of rows
returns-in-57 c = rw c.in-57.is

pub returns-in-58 : goal.returns-in-58
unfolding row_of rows
returns-in-58 c = rw c.in-58.is

pub returns-in-59 : goal.returns-in-59
unfolding row_of rows
returns-in-59 c = rw c.in-59.is

pub returns-in-60 : goal.returns-in-60
unfolding row_of rows
returns-in-60 c = rw c.in-60.is

pub returns-in-61 : goal.returns-in-61
unfolding row_of rows
returns-in-61 c = rw c.in-61.is

pub returns-in-63 : goal.returns-in-63
unfolding row_of rows
returns-in-63 c = rw c.in-63.is

pub returns-in-64 : goal.returns-in-64
unfolding row_of rows
returns-in-64 c = keys c.args.reading (0x40 ∷ 0x42 ∷ 0x44 ∷ 0x46 ∷ []) (meant (Form.OnRegister INC)) c.args.opcode refl c.in-64.is

pub returns-in-65 : goal.returns-in-65
unfolding row_of rows
returns-in-65 c = keys c.args.reading (0x41 ∷ 0x43 ∷ 0x45 ∷ 0x47 ∷ []) (meant (Form.OnRegister INC)) c.args.opcode refl c.in-65.is

pub returns-in-72 : goal.returns-in-72
unfolding row_of rows
returns-in-72 c = keys c.args.reading (0x48 ∷ 0x4A ∷ 0x4C ∷ 0x4E ∷ []) (meant (Form.OnRegister DEC)) c.args.opcode refl c.in-72.is

pub returns-in-73 : goal.returns-in-73
unfolding row_of rows
returns-in-73 c = keys c.args.reading (0x49 ∷ 0x4B ∷ 0x4D ∷ 0x4F ∷ []) (meant (Form.OnRegister DEC)) c.args.opcode refl c.in-73.is

pub returns-in-80 : goal.returns-in-80
unfolding row_of rows
returns-in-80 c = keys c.args.reading (0x50 ∷ 0x52 ∷ 0x54 ∷ 0x56 ∷ []) (meant (Form.OnRegister PUSH)) c.args.opcode refl c.in-80.is

pub returns-in-81 : goal.returns-in-81
unfolding row_of rows
returns-in-81 c = keys c.args.reading (0x51 ∷ 0x53 ∷ 0x55 ∷ 0x57 ∷ []) (meant (Form.OnRegister PUSH)) c.args.opcode refl c.in-81.is

pub returns-in-88 : goal.returns-in-88
unfolding row_of rows
returns-in-88 c = keys c.args.reading (0x58 ∷ 0x5A ∷ 0x5C ∷ 0x5E ∷ []) (meant (Form.OnRegister POP)) c.args.opcode refl c.in-88.is

pub returns-in-89 : goal.returns-in-89
unfolding row_of rows
returns-in-89 c = keys c.args.reading (0x59 ∷ 0x5B ∷ 0x5D ∷ 0x5F ∷ []) (meant (Form.OnRegister POP)) c.args.opcode refl c.in-89.is

pub returns-in-112 : goal.returns-in-112
unfolding row_of rows
returns-in-112 c = rw c.in-112.is

pub returns-in-113 : goal.returns-in-113
unfolding row_of rows
returns-in-113 c = rw c.in-113.is

pub returns-in-114 : goal.returns-in-114
unfolding row_of rows
returns-in-114 c = rw c.in-114.is

pub returns-in-115 : goal.returns-in-115
unfolding row_of rows
returns-in-115 c = rw c.in-115.is

pub returns-in-116 : goal.returns-in-116
unfolding row_of rows
returns-in-116 c = rw c.in-116.is

pub returns-in-117 : goal.returns-in-117
unfolding row_of rows
returns-in-117 c = rw c.in-117.is

pub returns-in-118 : goal.returns-in-118
unfolding row_of rows
returns-in-118 c = rw c.in-118.is

pub returns-in-119 : goal.returns-in-119
unfolding row_of rows
returns-in-119 c = rw c.in-119.is

pub returns-in-120 : goal.returns-in-120
unfolding row_of rows
returns-in-120 c = rw c.in-120.is

pub returns-in-121 : goal.returns-in-121
unfolding row_of rows
returns-in-121 c = rw c.in-121.is

pub returns-in-122 : goal.returns-in-122
unfolding row_of rows
returns-in-122 c = rw c.in-122.is

pub returns-in-123 : goal.returns-in-123
unfolding row_of rows
returns-in-123 c = rw c.in-123.is

pub returns-in-124 : goal.returns-in-124
unfolding row_of rows
returns-in-124 c = rw c.in-124.is

pub returns-in-125 : goal.returns-in-125
unfolding row_of rows
returns-in-125 c = rw c.in-125.is

pub returns-in-126 : goal.returns-in-126
unfolding row_of rows
returns-in-126 c = rw c.in-126.is

pub returns-in-127 : goal.returns-in-127
unfolding row_of rows
returns-in-127 c = rw c.in-127.is

pub returns-in-128 : goal.returns-in-128
unfolding row_of rows
returns-in-128 c = keys c.args.reading (0x80 ∷ 0x82 ∷ []) (meant (Form.WithModRM (WithModRM.ImmediateToRegisterOrMemory 0x80) Byte)) c.args.opcode refl c.in-128.is

pub returns-in-129 : goal.returns-in-129
unfolding row_of rows
returns-in-129 c = rw c.in-129.is

pub returns-in-131 : goal.returns-in-131
unfolding row_of rows
returns-in-131 c = rw c.in-131.is

pub returns-in-132 : goal.returns-in-132
unfolding row_of rows
returns-in-132 c = rw c.in-132.is

pub returns-in-133 : goal.returns-in-133
unfolding row_of rows
returns-in-133 c = rw c.in-133.is

pub returns-in-134 : goal.returns-in-134
unfolding row_of rows
returns-in-134 c = rw c.in-134.is

pub returns-in-135 : goal.returns-in-135
unfolding row_of rows
returns-in-135 c = rw c.in-135.is

pub returns-in-136 : goal.returns-in-136
unfolding row_of rows
returns-in-136 c = rw c.in-136.is

pub returns-in-137 : goal.returns-in-137
unfolding row_of rows
returns-in-137 c = rw c.in-137.is

pub returns-in-138 : goal.returns-in-138
unfolding row_of rows
returns-in-138 c = rw c.in-138.is

pub returns-in-139 : goal.returns-in-139
unfolding row_of rows
returns-in-139 c = rw c.in-139.is

pub returns-in-140 : goal.returns-in-140
unfolding row_of rows
returns-in-140 c = rw c.in-140.is

pub returns-in-141 : goal.returns-in-141
unfolding row_of rows
returns-in-141 c = rw c.in-141.is

pub returns-in-142 : goal.returns-in-142
unfolding row_of rows
returns-in-142 c = rw c.in-142.is

pub returns-in-143 : goal.returns-in-143
unfolding row_of rows
returns-in-143 c = rw c.in-143.is

pub returns-in-144 : goal.returns-in-144
unfolding row_of rows
returns-in-144 c = rw c.in-144.is

pub returns-in-145 : goal.returns-in-145
unfolding row_of rows
returns-in-145 c = keys c.args.reading (0x91 ∷ 0x93 ∷ 0x95 ∷ 0x97 ∷ []) (meant (Form.OpcodeAlone OpcodeAlone.Exchange)) c.args.opcode refl c.in-145.is

pub returns-in-146 : goal.returns-in-146
unfolding row_of rows
returns-in-146 c = keys c.args.reading (0x92 ∷ 0x94 ∷ 0x96 ∷ []) (meant (Form.OpcodeAlone OpcodeAlone.Exchange)) c.args.opcode refl c.in-146.is

pub returns-in-152 : goal.returns-in-152
unfolding row_of rows
returns-in-152 c = rw c.in-152.is

pub returns-in-153 : goal.returns-in-153
unfolding row_of rows
returns-in-153 c = rw c.in-153.is

pub returns-then-opcode-eq154 : goal.returns-then-opcode-eq154
unfolding row_of rows
returns-then-opcode-eq154 c = rw c.if-opcode-eq154.true

pub returns-else-opcode-eq154 : goal.returns-else-opcode-eq154
unfolding row_of rows
returns-else-opcode-eq154 c = ⊎_elim (λ q. absurd (c.if-opcode-eq154.false q)) (λ q. rw q) c.in-154.is

pub returns-in-155 : goal.returns-in-155
unfolding row_of rows
returns-in-155 c = rw c.in-155.is

pub returns-in-156 : goal.returns-in-156
unfolding row_of rows
returns-in-156 c = rw c.in-156.is

pub returns-in-157 : goal.returns-in-157
unfolding row_of rows
returns-in-157 c = rw c.in-157.is

pub returns-in-158 : goal.returns-in-158
unfolding row_of rows
returns-in-158 c = rw c.in-158.is

pub returns-in-159 : goal.returns-in-159
unfolding row_of rows
returns-in-159 c = rw c.in-159.is

pub returns-in-160 : goal.returns-in-160
unfolding row_of rows
returns-in-160 c = keys c.args.reading (0xA0 ∷ 0xA2 ∷ []) (meant Form.AccumulatorAndDirect) c.args.opcode refl c.in-160.is

pub returns-in-161 : goal.returns-in-161
unfolding row_of rows
returns-in-161 c = keys c.args.reading (0xA1 ∷ 0xA3 ∷ []) (meant Form.AccumulatorAndDirect) c.args.opcode refl c.in-161.is

pub returns-in-164 : goal.returns-in-164
unfolding row_of rows
returns-in-164 c = rw c.in-164.is

pub returns-in-165 : goal.returns-in-165
unfolding row_of rows
returns-in-165 c = rw c.in-165.is

pub returns-in-166 : goal.returns-in-166
unfolding row_of rows
returns-in-166 c = rw c.in-166.is

pub returns-in-167 : goal.returns-in-167
unfolding row_of rows
returns-in-167 c = rw c.in-167.is

pub returns-in-168 : goal.returns-in-168
unfolding row_of rows
returns-in-168 c = rw c.in-168.is

pub returns-in-169 : goal.returns-in-169
unfolding row_of rows
returns-in-169 c = rw c.in-169.is

pub returns-in-170 : goal.returns-in-170
unfolding row_of rows
returns-in-170 c = rw c.in-170.is

pub returns-in-171 : goal.returns-in-171
unfolding row_of rows
returns-in-171 c = rw c.in-171.is

pub returns-in-172 : goal.returns-in-172
unfolding row_of rows
returns-in-172 c = rw c.in-172.is

pub returns-in-173 : goal.returns-in-173
unfolding row_of rows
returns-in-173 c = rw c.in-173.is

pub returns-in-174 : goal.returns-in-174
unfolding row_of rows
returns-in-174 c = rw c.in-174.is

pub returns-in-175 : goal.returns-in-175
unfolding row_of rows
returns-in-175 c = rw c.in-175.is

pub returns-in-176 : goal.returns-in-176
unfolding row_of rows
returns-in-176 c = keys c.args.reading (0xB0 ∷ 0xB2 ∷ 0xB4 ∷ 0xB6 ∷ 0xB8 ∷ 0xBA ∷ 0xBC ∷ 0xBE ∷ []) (meant Form.RegisterAndImmediate) c.args.opcode refl c.in-176.is

pub returns-in-177 : goal.returns-in-177
unfolding row_of rows
returns-in-177 c = keys c.args.reading (0xB1 ∷ 0xB3 ∷ 0xB5 ∷ 0xB7 ∷ 0xB9 ∷ 0xBB ∷ 0xBD ∷ 0xBF ∷ []) (meant Form.RegisterAndImmediate) c.args.opcode refl c.in-177.is

pub returns-in-192 : goal.returns-in-192
unfolding row_of rows
returns-in-192 c = rw c.in-192.is

pub returns-in-193 : goal.returns-in-193
unfolding row_of rows
returns-in-193 c = rw c.in-193.is

pub returns-in-194 : goal.returns-in-194
unfolding row_of rows
returns-in-194 c = rw c.in-194.is (c.returned.ensures 0xC2)

pub returns-in-195 : goal.returns-in-195
unfolding row_of rows
returns-in-195 c = rw c.in-195.is

pub returns-in-196 : goal.returns-in-196
unfolding row_of rows
returns-in-196 c = rw c.in-196.is

pub returns-in-197 : goal.returns-in-197
unfolding row_of rows
returns-in-197 c = rw c.in-197.is

pub returns-in-198 : goal.returns-in-198
unfolding row_of rows
returns-in-198 c = rw c.in-198.is

pub returns-in-199 : goal.returns-in-199
unfolding row_of rows
returns-in-199 c = rw c.in-199.is

pub returns-in-202 : goal.returns-in-202
unfolding row_of rows
returns-in-202 c = rw c.in-202.is

pub returns-in-203 : goal.returns-in-203
unfolding row_of rows
returns-in-203 c = rw c.in-203.is

pub returns-in-204 : goal.returns-in-204
unfolding row_of rows
returns-in-204 c = rw c.in-204.is

pub returns-in-205 : goal.returns-in-205
unfolding row_of rows
returns-in-205 c = rw c.in-205.is

pub returns-in-206 : goal.returns-in-206
unfolding row_of rows
returns-in-206 c = rw c.in-206.is

pub returns-in-207 : goal.returns-in-207
unfolding row_of rows
returns-in-207 c = rw c.in-207.is

pub returns-in-208 : goal.returns-in-208
unfolding row_of rows
returns-in-208 c = rw c.in-208.is

pub returns-in-209 : goal.returns-in-209
unfolding row_of rows
returns-in-209 c = rw c.in-209.is

pub returns-in-210 : goal.returns-in-210
unfolding row_of rows
returns-in-210 c = rw c.in-210.is

pub returns-in-211 : goal.returns-in-211
unfolding row_of rows
returns-in-211 c = rw c.in-211.is

pub returns-in-212 : goal.returns-in-212
unfolding row_of rows
returns-in-212 c = rw c.in-212.is

pub returns-in-213 : goal.returns-in-213
unfolding row_of rows
returns-in-213 c = rw c.in-213.is

pub returns-in-214 : goal.returns-in-214
unfolding row_of rows
returns-in-214 c = rw c.in-214.is

pub returns-in-215 : goal.returns-in-215
unfolding row_of rows
returns-in-215 c = rw c.in-215.is

pub returns-in-224 : goal.returns-in-224
unfolding row_of rows
returns-in-224 c = rw c.in-224.is

pub returns-in-225 : goal.returns-in-225
unfolding row_of rows
returns-in-225 c = rw c.in-225.is

pub returns-in-226 : goal.returns-in-226
unfolding row_of rows
returns-in-226 c = rw c.in-226.is

pub returns-in-227 : goal.returns-in-227
unfolding row_of rows
returns-in-227 c = rw c.in-227.is

pub returns-in-232 : goal.returns-in-232
unfolding row_of rows
returns-in-232 c = rw c.in-232.is

pub returns-in-233 : goal.returns-in-233
unfolding row_of rows
returns-in-233 c = rw c.in-233.is

pub returns-in-235 : goal.returns-in-235
unfolding row_of rows
returns-in-235 c = rw c.in-235.is

pub returns-in-240 : goal.returns-in-240
unfolding row_of rows
returns-in-240 c = rw c.in-240.is

pub returns-in-241 : goal.returns-in-241
unfolding row_of rows
returns-in-241 c = rw c.in-241.is

pub returns-in-244 : goal.returns-in-244
unfolding row_of rows
returns-in-244 c = rw c.in-244.is

pub returns-in-245 : goal.returns-in-245
unfolding row_of rows
returns-in-245 c = rw c.in-245.is

pub returns-in-246 : goal.returns-in-246
unfolding row_of rows
returns-in-246 c = rw c.in-246.is

pub returns-in-247 : goal.returns-in-247
unfolding row_of rows
returns-in-247 c = rw c.in-247.is

pub returns-in-248 : goal.returns-in-248
unfolding row_of rows
returns-in-248 c = rw c.in-248.is

pub returns-in-249 : goal.returns-in-249
unfolding row_of rows
returns-in-249 c = rw c.in-249.is

pub returns-in-250 : goal.returns-in-250
unfolding row_of rows
returns-in-250 c = rw c.in-250.is

pub returns-in-251 : goal.returns-in-251
unfolding row_of rows
returns-in-251 c = rw c.in-251.is

pub returns-in-252 : goal.returns-in-252
unfolding row_of rows
returns-in-252 c = rw c.in-252.is

pub returns-in-253 : goal.returns-in-253
unfolding row_of rows
returns-in-253 c = rw c.in-253.is

pub returns-in-96-to-111 : goal.returns-in-96-to-111
unfolding row_of rows
returns-in-96-to-111 c = ranged c.args.reading dispatched (meant Form.Invalid) 0x00 112 c.args.opcode refl (omega arith) (omega arith) c.in-96-to-111.in_default-own.rest

pub returns-in-200-to-201 : goal.returns-in-200-to-201
unfolding row_of rows
returns-in-200-to-201 c = ranged c.args.reading dispatched (meant Form.Invalid) 0x70 90 c.args.opcode refl (omega arith) (omega arith) c.in-200-to-201.in_default-own.rest

pub returns-in-216-to-223 : goal.returns-in-216-to-223
unfolding row_of rows
returns-in-216-to-223 c =
    c.escaped.ensures c.args.opcode
    ∙ ranged c.args.reading dispatched (λ (j : ℕ). reads (escaped_in c.args.reading)) 0xCA 22 c.args.opcode refl (omega arith) (omega arith) c.in-216-to-223.in_default-own.rest

pub returns-in-228-to-229 : goal.returns-in-228-to-229
unfolding row_of rows
returns-in-228-to-229 c = ranged c.args.reading dispatched (meant Form.InPort) 0xE0 6 c.args.opcode refl (omega arith) (omega arith) c.in-228-to-229.in_default-own.rest

pub returns-in-230-to-231 : goal.returns-in-230-to-231
unfolding row_of rows
returns-in-230-to-231 c = ranged c.args.reading dispatched (meant Form.OutPort) 0xE6 2 c.args.opcode refl (omega arith) (omega arith) c.in-230-to-231.in_default-own.rest

pub returns-in-236-to-237 : goal.returns-in-236-to-237
unfolding row_of rows
returns-in-236-to-237 c = ranged c.args.reading dispatched (meant (Form.OpcodeAlone OpcodeAlone.InDx)) 0xE8 6 c.args.opcode refl (omega arith) (omega arith) c.in-236-to-237.in_default-own.rest

pub returns-in-238-to-239 : goal.returns-in-238-to-239
unfolding row_of rows
returns-in-238-to-239 c = ranged c.args.reading dispatched (meant (Form.OpcodeAlone OpcodeAlone.OutDx)) 0xEE 2 c.args.opcode refl (omega arith) (omega arith) c.in-238-to-239.in_default-own.rest

pub returns-then-opcode-eq254 : goal.returns-then-opcode-eq254
unfolding row_of rows
returns-then-opcode-eq254 c = rw c.if-opcode-eq254.true

pub returns-else-opcode-eq254 : goal.returns-else-opcode-eq254
unfolding row_of rows
returns-else-opcode-eq254 c =
    ranged c.args.reading ((0xFE ∷ []) ∷ dispatched) (meant (Form.WithModRM (WithModRM.OnRegisterOrMemory 0xFE) Word)) 0xF0 16 c.args.opcode refl (omega arith) (omega arith)
    (c.in-254-to-255.in_default-own.rest, c.if-opcode-eq254.false)

-- Internal: what the parts of the decoder owe each other.
-- Rule 6.3: the codes of the form table: a row as one number, of its form, its operation's number and its size.
use Rattle.std.specs.Prelude.{ℕ, ◌+◌, ◌*◌}
use Rattle.mrc_instruction.specs.declared.operand.OperandSize.TheVariants.{Word}
use Rattle.mrc_instruction.specs.declared.operation.Operation.TheVariants.{MOV, POP, XCHG, IN, OUT, ESC}
use Rattle.mrc_instruction.specs.Operation.{operation_number}
use Rattle.mrc_instruction.specs.Operand.{size_code}
use Rattle.mrc_rules.specs.Forms.{Row, ◌⦂◌, invalid, prefix, bare, rm_reg, reg_rm, immediate_to_accumulator, on_segment, on_register, on_displacement, group80, group83, pop, rm_segment, segment_rm, exchange, far, acc_direct, direct_acc, register_and_immediate, shift_by_immediate, shift_by_one, shift_by_cl, on_immediate, group_c6, escape, in_port, out_port, in_dx, out_dx, group_f6, group_fe, escape_rm, reaching}

-- two hex digits for each
abbrev pub packed : ℕ → ℕ → ℕ → ℕ
packed form operation size = form * 0x1_00_00 + operation * 0x1_00 + size

-- the number of a row; where the form or reg names no operation, or no size, that code is 0
abbrev pub code_of : Row → ℕ
code_of invalid = packed 0 0 0
code_of prefix = packed 1 0 0
code_of (bare op) = packed 2 (operation_number op) 0
code_of (rm_reg op ⦂ size) = packed 3 (operation_number op) (size_code size)
code_of (reg_rm op ⦂ size) = packed 4 (operation_number op) (size_code size)
code_of (immediate_to_accumulator op size) = packed 5 (operation_number op) (size_code size)
code_of (on_segment op s) = packed 6 (operation_number op) (size_code Word)
code_of (on_register op r) = packed 7 (operation_number op) (size_code Word)
code_of (on_displacement op size) = packed 8 (operation_number op) (size_code size)
code_of (group80 ⦂ size) = packed 9 0 (size_code size)
code_of (group83 ⦂ size) = packed 10 0 (size_code size)
code_of (pop ⦂ size) = packed 11 (operation_number POP) (size_code size)
code_of (rm_segment ⦂ size) = packed 12 (operation_number MOV) (size_code size)
code_of (segment_rm ⦂ size) = packed 13 (operation_number MOV) (size_code size)
code_of (exchange r) = packed 14 (operation_number XCHG) (size_code Word)
code_of (far op) = packed 15 (operation_number op) 0
code_of (acc_direct size) = packed 16 (operation_number MOV) (size_code size)
code_of (direct_acc size) = packed 17 (operation_number MOV) (size_code size)
code_of (register_and_immediate r size) = packed 18 (operation_number MOV) (size_code size)
code_of (shift_by_immediate ⦂ size) = packed 19 0 (size_code size)
code_of (shift_by_one ⦂ size) = packed 20 0 (size_code size)
code_of (shift_by_cl ⦂ size) = packed 21 0 (size_code size)
code_of (on_immediate op size) = packed 22 (operation_number op) (size_code size)
code_of (group_c6 ⦂ size) = packed 23 (operation_number MOV) (size_code size)
code_of escape = packed 24 (operation_number ESC) 0
code_of (in_port size) = packed 25 (operation_number IN) (size_code size)
code_of (out_port size) = packed 26 (operation_number OUT) (size_code size)
code_of (in_dx size) = packed 27 (operation_number IN) (size_code size)
code_of (out_dx size) = packed 28 (operation_number OUT) (size_code size)
code_of (group_f6 ⦂ size) = packed 29 0 (size_code size)
code_of (group_fe ⦂ size) = packed 30 0 (size_code size)
code_of (escape_rm ⦂ size) = packed 31 (operation_number ESC) (size_code size)
code_of (reaching reach row) = code_of row

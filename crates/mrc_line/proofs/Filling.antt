-- Lines that are put while there is room for any: a buffer for one line gets one.
-- Assumes nothing.
use Rattle.std.proofs.Common.{◌≡◌, ℕ, ◌+◌, ◌-◌, ◌<◌, ◌≤◌, ◌⊎◌, List, ◌++◌, length, get_or, take, drop, refl, ap, ◌∙◌, inl, inr, ⊎_elim, arith, length-append}
use borrow.Rule.Slice.PartMut.{mid_of, put_mid}
use Rattle.mrc_instruction.specs.declared.reading.Reading.{Reading}
use Rattle.mrc_rules.specs.Decode.{decode_at}
use Rattle.mrc_line.specs.Text.{Put}
use Rattle.mrc_line.specs.Target.{offsets}
use Rattle.mrc_line.specs.Line.{a_line, head_text, body_text, line_end, step_taken, step_text, line_text, line_taken, Listed, longest, budget}
use Rattle.mrc_line.specs.Page.{Paging, Roomy}
use Rattle.mrc_line.proofs.Answers.{written}
use Rattle.mrc_line.proofs.Lengths.{line_longest}
use Rattle.mrc_line.proofs.Paging.{begins, tells, grown, goes_on}

-- no line yet, or the first alone
abbrev NoneOrOne : Reading → List ℕ → ℕ → List ℕ → List ℕ → ℕ → ℕ → Type 0
NoneOrOne x s at out₀ out o next =
    ((o ≡ 0) × (next ≡ at) × (out ≡ out₀)) ⊎ (Put o out₀ 0 (line_text x s at) out o × (next ≡ at + line_taken x s at))

-- the loop's: a buffer for one line has none or one
pub record Filling (x : Reading) (s : List ℕ) (at : ℕ) (out₀ out : List ℕ) (o next : ℕ) : Type 0 where
  pub paging : Paging x s at out₀ out o next
  pub few : length out₀ ≡ longest → NoneOrOne x s at out₀ out o next

module _ (x : Reading) where
  -- a line has its end at least
  line_some : (s : List ℕ) (at : ℕ) → 1 ≤ length (line_text x s at)
  unfolding line_text step_text
  line_some s at =
      let a = decode_at x s at budget in
      let head = head_text at (take (step_taken a) (drop at s)) in
      let body = body_text x at (get_or s at 0) a in
      omega (arith, length-append head (body ++ line_end), length-append body line_end)

  pub starts : (s : List ℕ) (at : ℕ) (out : List ℕ) → Filling x s at out out 0 at
  starts s at out = record { paging = begins x s at out; few = λ _. inl (refl, refl, refl) }

  module _ {s : List ℕ} {at : ℕ} {out₀ out : List ℕ} {o next : ℕ} (p : Filling x s at out₀ out o next) where
    -- a turn, in which a line was put where there was room for any: in a buffer for one it is the first
    pub fills :
        (len taken : ℕ) (last : List ℕ) → Listed x s next (mid_of o (length out - o) out) (a_line len taken) last →
        length last ≡ length (mid_of o (length out - o) out) → next < length s → longest ≤ length out - o →
        Filling x s at out₀ (put_mid o (length out - o) out last) (o + len) (next + taken)
    fills len taken last l k h r =
        let g = grown x p.paging (a_line len taken) last l len taken refl in
        let t = tells x p.paging (a_line len taken) last l len taken refl in
        record {
          paging = goes_on x p.paging (a_line len taken) last l len taken refl k h;
          few = λ e.
              ⊎_elim
              (λ n. inr (
                record {
                  end = omega (arith, g.end, n.0, ap (λ (m : ℕ). length (line_text x s m)) n.1);
                  most = omega arith;
                  text = g.text ∙ ap (λ (m : ℕ). take m out ++ line_text x s next) n.0 ∙ ap (line_text x s) n.1;
                  rest = g.rest ∙ ap (drop (o + len)) n.2;
                },
                omega (arith, n.1, t.taken_is, ap (line_taken x s) n.1),
              ))
              (λ n. absurd (omega (arith, line_some s at, p.paging.long, n.0.end)))
              (p.few e);
        }

    -- the end: past the image, or without room for any line
    pub filled : length s ≤ offsets → (length s ≤ next) ⊎ (length out - o < longest) → Roomy x s at out₀ (record { len = o; next = next }) out
    filled h stop = record {
      paging = p.paging;
      one = λ k e.
          ⊎_elim
          (λ n. absurd (⊎_elim (λ w. omega (arith, n.1)) (λ w. omega (arith, n.0, p.paging.long)) stop))
          (λ n. written x s at out₀ h k o o (next - at) n.0 (omega (arith, line_longest x s at)) refl (omega (arith, n.1)))
          (p.few e);
    }

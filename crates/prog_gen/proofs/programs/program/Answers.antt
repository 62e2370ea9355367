use Rattle.std.proofs.Common.{◌≡◌, ℕ, ◌+◌, ◌-◌, ◌*◌, ◌/◌, ◌≤◌, ◌++◌, ◌∙◌, suc, sym, ap, subst, arith, length, take, List}
use Rattle.y86_base.specs.Image.{with_bytes}
use Rattle.prog_gen.specs.Programs.{code, program}
use Rattle.prog_gen.proofs.Laid.{IsLaid, laid_take, laid_more, laid_all, code_more, code_none}
use Rattle.prog_gen.proofs.programs.program.Goals as goal

pub loop-k-preserved : goal.loop-k-preserved
loop-k-preserved c =
    let b : ℕ = (10 * c.args.n + 15) / 8 * 8 in
    let m : List ℕ = c.loop-k.image in
    let at : ℕ = c.loop-k.at in
    let bytes : List ℕ = c.as_slice.result.now in
    let count : c.len.result ≡ length bytes = c.len.ensures.value ∙ sym (ap length c.as_slice.ensures.value) in
    let room : at + length bytes ≤ b + 2048 = omega arith in
    let put : c.put_bytes.new.image ≡ with_bytes m at bytes = c.put_bytes.ensures in
    let end : at + c.len.result ≡ at + length bytes = omega (arith, count) in
    let front : take (at + c.len.result) c.put_bytes.new.image ≡ take at m ++ bytes =
    ap (λ (k : ℕ). take k c.put_bytes.new.image) end ∙ (ap (take (at + length bytes)) put ∙ laid_take m at bytes (omega (arith, room, c.loop-k.invariant.laid.size_is))) in
    let left : c.args.n - c.loop-k.k ≡ suc (c.args.n - (c.loop-k.k + 1)) = omega arith in
    record {
      within = omega arith;
      most = omega (arith, count, room);
      laid = subst (λ (k : ℕ). IsLaid (b + 2048) k c.put_bytes.new.image) (sym end)
          (subst (IsLaid (b + 2048) (at + length bytes)) (sym put) (laid_more (b + 2048) at m bytes c.loop-k.invariant.laid room));
      rest = ap (λ (xs : List ℕ). xs ++ code b (c.args.n - (c.loop-k.k + 1)) (at + c.len.result) c.draw_instruction-instr.new.draws) front
          ∙ (ap (λ (k : ℕ). (take at m ++ bytes) ++ code b (c.args.n - (c.loop-k.k + 1)) k c.draw_instruction-instr.new.draws) end
          ∙ (code_more b (c.args.n - (c.loop-k.k + 1)) at c.loop-k.draws (take at m) bytes _ c.draw_instruction-instr.ensures.drawn (c.as_slice.ensures.value ∙ c.encode-bytes.ensures)
          ∙ (ap (λ (k : ℕ). take at m ++ code b k at c.loop-k.draws) (sym left) ∙ c.loop-k.invariant.rest)));
    }

pub returns : goal.returns
unfolding program
returns c =
    let b : ℕ = (10 * c.args.n + 15) / 8 * 8 in
    let none : c.args.n - c.loop-k.k ≡ 0 = omega arith in
    laid_all (b + 2048) c.loop-k.at c.loop-k.image (code b c.args.n 0 c.args.n) c.loop-k.invariant.laid (omega arith)
    (sym (code_none b c.loop-k.at c.loop-k.draws (take c.loop-k.at c.loop-k.image))
    ∙ (ap (λ (k : ℕ). take c.loop-k.at c.loop-k.image ++ code b k c.loop-k.at c.loop-k.draws) (sym none) ∙ c.loop-k.invariant.rest))

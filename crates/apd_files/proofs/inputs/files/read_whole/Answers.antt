use Rattle.std.proofs.Common.{◌∙◌, refl, sym, ap, subst, []}
use Rattle.apd_files.specs.Reading.{IsRead}
use Rattle.apd_files.proofs.Blocks.{IsRead-opens, IsRead-gives, extended}
use Rattle.apd_files.proofs.inputs.files.read_whole.Goals as goal

pub loop-files-init : goal.loop-files-init
loop-files-init g c =
    let held = g.F.Files.held in
    let left = g.F.Files.left c.open.new.self in
    let opened = IsRead-opens (held c.args.files.now c.args.path.now) left c.in_ok-open.ensures.ok in
    let later = subst (λ f. IsRead [] f left) (ap (λ h. h c.args.path.now) (sym c.open.ensures.same)) opened in
    (subst (λ l. IsRead l (held c.open.new.self c.args.path.now) left) (sym c.new-bytes.ensures.items) later, refl)

pub loop-files-preserved : goal.loop-files-preserved
loop-files-preserved g c =
    let file = g.F.Files.held c.open.new.self c.args.path.now in
    let e = extended c.extend_from_slice.result c.extend_from_slice.new.self.items c.loop-files.bytes.items c.as_slice.result.now c.in_ok-block.block.items
    (sym c.is_err.ensures.value ∙ c.if-is_err.false) c.extend_from_slice.ensures.items c.as_slice.ensures.value in
    let r = IsRead-gives c.loop-files.bytes.items c.in_ok-block.block.items file (g.F.Files.left c.loop-files.files) (g.F.Files.left c.next_block.new.self) c.loop-files.invariant.0 c.in_ok-block.ensures.ok in
    (subst (λ l. IsRead l file (g.F.Files.left c.next_block.new.self)) (sym e) r, c.next_block.ensures.same ∙ c.loop-files.invariant.1)

use Rattle.std.proofs.Common.{◌≡◌, ◌∷◌, [], ◌++◌, Err, ap, subst, sym, ◌∙◌}
use Rattle.std.proofs.lemmas.Result.{err_from_is_err_and}
use Rattle.gx_gather.specs.Gathering.{IsGathered}
use Rattle.gx_gather.specs.Table.{Defines}
use Rattle.gx_gather.specs.Gathering.{Gathering}
use Rattle.gx_gather.specs.Items.{volume_names}
use Rattle.gx_gather.specs.declared.gathered.TheConstants.{MAX_VOLUMES}
use Rattle.gx_gather.specs.declared.item.Item.TheVariants.{Volume}
use Rattle.gx_gather.proofs.Items.{one_volume_more, refused_volume}
use Rattle.gx_gather.proofs.gathered.Gathered.add_volume.Goals as goal

pub returns-in_err-define-clause-err : goal.returns-in_err-define-clause-err
returns-in_err-define-clause-err c =
    let g = c.self.inside in
    let p = err_from_is_err_and c.from_residual-in_err-define.result c.from_residual-in_err-define.ensures.1 in
    let defines = subst (λ n. Defines MAX_VOLUMES g.volumes n c.define.new.names (Err c.in_err-define.field-0.0)) c.bytes.ensures c.in_err-define.ensures.defines in
    let a = c.args in
    let same = c.self.invariant.names ∙ ap (λ (s : Gathering). volume_names s.so_far.items) c.self.view_is in
    rw (p.1, p.2) (refused_volume a.self.now.so_far g.volumes c.define.new.names a.line a.name a.material a.shape c.in_err-define.field-0.0 same defines)

pub invariant_of-self-2 : goal.invariant_of-self-2
invariant_of-self-2 c =
    let g = c.self.inside in
    let a = c.args in
    let volume = Volume a.line a.name a.shape a.material in
    let named : c.define.new.names ≡ g.volumes ++ a.name ∷ [] = c.in_ok-define.ensures.defines.1 ∙ ap (λ n. g.volumes ++ n ∷ []) c.bytes.ensures in
    subst (λ items. IsGathered g.param_lines c.define.new.names g.placements items) (sym (c.in_ok-push.ensures.items ∙ ap (λ items. items ++ volume ∷ []) c.in_ok-reserve.ensures.items))
    (subst (λ names. IsGathered g.param_lines names g.placements (g.items.items ++ volume ∷ [])) (sym named)
    (one_volume_more g.param_lines g.volumes g.placements g.items.items c.self.invariant a.line a.name a.material a.shape c.requires c.in_ok-define.ensures.room))

use Rattle.std.proofs.Common.{◌≡◌, ℕ, ◌+◌, ◌*◌, ◌<◌, ◌≤◌, ◌↔◌, List, length, get_or, set, sym, refl, ap, ◌∙◌, subst, suc-mul, arith}
use Rattle.logic.proofs.Rows.{reaches_where_sat}
use Rattle.logic.specs.Sets.{◌∈◌}
use Rattle.sheet.specs.Kinds.{kind_of}
use Rattle.sheet.specs.Calls.{with_row, degrees_of, reaches, first_of, second_of, written}
use Rattle.sheet.specs.States.{seen}
use Rattle.sheet.proofs.Exits.{goes, accepted, ok_same}
use Rattle.sheet.proofs.Over.{operands_there}
use Rattle.sheet.proofs.Writes.{read_back}
use Rattle.sheet.proofs.sheet.Sheet.enter.Goals as goal

pub append-requires : goal.append-requires
append-requires g c =
    let known = c.in_ok-known.ensures.known in
    record { sizes = known.0.fits; room = known.0.room.bytes; operands = operands_there c.in_ok-known.known c.args.self.now _ _ known.1 }

pub returns : goal.returns
returns g c =
    let m = g.M.Model.meaning c.args.model.now in
    let d = g.S.Scale.grades c.args.scale.now in
    let x = c.args.self.now in
    let s = seen x c.args.rows.now c.args.bytes.now in
    let ok = c.in_ok-known.ensures.exact in
    let ready = c.in_ok-known.ensures.known.0 in
    let bytes : c.append.new.bytes ≡ written c.args.bytes.now (x.rows * x.size.states) x.size.states (degrees_of m d s c.args.row) =
    c.append.ensures c.args.rows.now ∙ ap (λ r. written c.args.bytes.now (x.rows * x.size.states) x.size.states (degrees_of m d s r)) c.in_ok-known.ensures.known.1.row in
    let row = c.args.row in
    let place : x.rows * x.size.states + x.size.states ≤ length c.args.bytes.now = omega (arith, ready.room.bytes, suc-mul x.rows x.size.states) in
    let reads : (k : ℕ) → k < x.size.states → get_or c.append.new.bytes (x.rows * x.size.states + k) 0 ≡ degrees_of m d s row k =
    λ k h. ap (λ (bs : List ℕ). get_or bs (x.rows * x.size.states + k) 0) bytes ∙ read_back c.args.bytes.now (x.rows * x.size.states) x.size.states (degrees_of m d s row) k h place in
    record {
      answers = goes ok refl;
      sets = λ n q l k some most here.
          let is : x.rows ≡ n = ok_same x.rows n q in
          let at : get_or c.append.new.bytes (n * x.size.states + k) 0 ≡ degrees_of m d s row k =
          subst (λ n. get_or c.append.new.bytes (n * x.size.states + k) 0 ≡ degrees_of m d s row k) is (reads k (subst (λ N. k < N) ready.fits.states here)) in
          subst (λ b. (l ≤ b) ↔ (k ∈ reaches m d s row l)) (sym at)
          (reaches_where_sat m (g.M.Model.lawful c.args.model.now) ready.total d (g.S.Scale.lawful c.args.scale.now) (kind_of row.kind row.a) (first_of s row) (second_of s row) ready.first ready.second l k some most here);
      leaves = rw c.from.ensures (accepted _ _ s (with_row m d s row) _ ok
          (ap (λ (bs : List ℕ). record { states = x.size.states; props = x.size.props; levels = x.levels; count = x.rows + 1; records = set c.args.rows.now x.rows row; degrees = bs }) bytes));
    }

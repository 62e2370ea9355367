use Rattle.std.proofs.Common.{◌≡◌, ◌++◌, ℕ, List, codes, OnOk, Option, Some, append_assoc, sym, subst}
use Rattle.fault_report.specs.Datapaths.{datapath_name}
use Rattle.hcl_types.specs.declared.table.Datapath.{Datapath}
use Rattle.fault_output.specs.Json.{datapath_text, string_text}
use Rattle.fault_output.proofs.json.put_datapath.Goals as goal

pub returns-in-Some : goal.returns-in-Some
returns-in-Some c =
    let is : c.args.datapath ≡ Some c.in-Some.datapath = c.in-Some.is in
    let said = subst (λ (name : List ℕ). OnOk c.put_text.result (c.put_text.new.out.items ≡ c.args.out.now.items ++ codes ", \"datapath\": " ++ string_text name))
    c.datapath_name.ensures c.put_text.ensures in
    let joined = subst (λ (xs : List ℕ). OnOk c.put_text.result (c.put_text.new.out.items ≡ xs))
    (append_assoc c.args.out.now.items (codes ", \"datapath\": ") (string_text (datapath_name c.in-Some.datapath))) said in
    subst (λ (o : Option Datapath). OnOk c.put_text.result (c.put_text.new.out.items ≡ c.args.out.now.items ++ datapath_text o)) (sym is) joined

-- Statements of a source: the parts of the body that they give, their statements, and each reason
-- that stands in them.
use Rattle.std.specs.Prelude.{ℕ, ◌+◌, ◌==◌, List, [], ◌∷◌, ◌++◌, map, length, nat_lt, nat_le, Option, Some, None, not, is_some, if◌then◌else◌}
use Rattle.std.specs.Str.{bytes_eq}
use Rattle.sanlp.specs.declared.nest.Node.{Node}
use Rattle.sanlp.specs.declared.nest.Node as node
use Rattle.sanlp.specs.declared.nest.Role.TheVariants as role
use Rattle.sanlp.specs.declared.nest.Statement.{Statement}
use Rattle.loop_grammar.specs.declared.tree.Comparison.{Comparison}
use Rattle.loop_grammar.specs.declared.tree.Name.{Name}
use Rattle.loop_grammar.specs.declared.tree.Operand.{Operand}
use Rattle.loop_grammar.specs.declared.tree.Part.{Part, fold-Part}
use Rattle.loop_grammar.specs.declared.tree.Part.TheOpen.{Part-F, For, If, Assign, Block, Other-F}
use Rattle.loop_grammar.specs.declared.tree.Step.{Step}
use Rattle.loop_bind.specs.declared.affine.Affine.{Affine}
use Rattle.loop_bind.specs.declared.bounds.Bounds.{Bounds}
use Rattle.loop_bind.specs.declared.context.Context.{Context}
use Rattle.loop_bind.specs.declared.error.BindError.{BindError}
use Rattle.loop_bind.specs.declared.error.BindError.TheVariants.{UnknownName, Duplicate, ElseForm, TooManyProcesses, TooDeep, TooManyRows}
use Rattle.loop_bind.specs.declared.scope.Place.TheVariants.{Body}
use Rattle.loop_bind.specs.declared.scope.What.{What}
use Rattle.loop_bind.specs.declared.scope.What.TheVariants.{Array}
use Rattle.loop_bind.specs.Bounds.{loop_bounds, step_findings, lower_of, upper_of, step_of, variable_of}
use Rattle.loop_bind.specs.Forms.{form_over}
use Rattle.loop_bind.specs.Judging.{Scope, findings_of, lower_operands, upper_operands}
use Rattle.loop_bind.specs.Names.{value_named, with_name}
use Rattle.loop_bind.specs.Reasons.{found_if}
use Rattle.loop_bind.specs.Rows.{lower_forms, loop_rows, guard_rows, guard_findings, may_have_else, else_rows}
use Rattle.loop_bind.specs.Values.{valued, subscripts_over, access_findings}

-- what a part gives: nodes, statements in text order, the number of the next loop, and the reasons
-- in it
pub record Made : Type 0 where
  pub nodes : List Node
  pub statements : List Statement
  pub next_loop : ℕ
  pub findings : List BindError

-- a part of a source in a context, where the next loop and the next statement have these numbers
abbrev pub Meaning : Type 0
Meaning = Context → ℕ → ℕ → Made

abbrev pub nothing : ℕ → Made
nothing l = record { nodes = []; statements = []; next_loop = l; findings = [] }

abbrev pub both : Made → Made → Made
both a b =
    record {
      nodes = a.nodes ++ b.nodes;
      statements = a.statements ++ b.statements;
      next_loop = b.next_loop;
      findings = a.findings ++ b.findings;
    }

-- parts in text order
abbrev pub in_order : List Meaning → Meaning
in_order [] c l s = nothing l
in_order (part ∷ parts) c l s =
    let a = part c l s in both a (in_order parts c a.next_loop (s + length a.statements))

abbrev pub depth_of : Context → ℕ
depth_of c = length c.loops

-- a name that is declared must be new
abbrev pub new_name_findings : Scope → Name → List BindError
new_name_findings scope name =
    found_if (is_some (value_named scope name.text)) (Duplicate name.token)

-- the second and the third part of a `for` name the variable of the first
abbrev pub same_name_findings : Name → Name → List BindError
same_name_findings first name =
    found_if (not (bytes_eq first.text name.text)) (UnknownName name.token)

-- the context inside the loop of this number
abbrev pub inside_loop : Context → List ℕ → ℕ → Bounds → Context
inside_loop c name l bounds =
    record c {
      scope = with_name c.scope name (variable_of (depth_of c) bounds);
      loops = c.loops ++ l ∷ [];
      rows = c.rows ++ loop_rows (depth_of c) bounds;
    }

abbrev pub for_findings : Context → Name → Operand → Name → Operand → Name → Step → List BindError
for_findings c name first second bound third step =
    new_name_findings c.scope name ++ found_if (nat_le 6 (depth_of c)) (TooDeep name.token)
    ++ findings_of Body c.scope (lower_operands first) ++ same_name_findings name second
    ++ findings_of Body c.scope (upper_operands bound) ++ same_name_findings name third
    ++ step_findings c.scope (length (lower_forms c.scope first)) step

-- The body of a seventh nested loop isn't read: all that stands in it comes after the loop, which
-- is too deep.
abbrev pub loop_body : Meaning → Context → List ℕ → Bounds → ℕ → ℕ → Made
loop_body body c name bounds l s =
    if nat_lt (depth_of c) 6 then body (inside_loop c name l bounds) (l + 1) s else nothing (l + 1)

abbrev pub loop_node : ℕ → ℕ → Bounds → List Node → Node
loop_node depth l bounds body =
    node.Loop l (map (form_over depth) (lower_of bounds)) (map (form_over depth) (upper_of bounds))
    (step_of bounds) body

abbrev pub loop_made : ℕ → ℕ → Bounds → List BindError → Made → Made
loop_made depth l bounds header inside =
    record inside {
      nodes = loop_node depth l bounds inside.nodes ∷ [];
      findings = header ++ inside.findings;
    }

-- a part under rows of a guard
abbrev pub guarded : Meaning → List Affine → Meaning
guarded body rows c l s =
    let inside = body (record c { rows = c.rows ++ rows }) l s in
    record inside { nodes = node.Guard (map (form_over (depth_of c)) rows) inside.nodes ∷ [] }

abbrev pub with_findings : List BindError → Made → Made
with_findings earlier made = record made { findings = earlier ++ made.findings }

-- an `else` part: its token and its body
abbrev pub Otherwise : Type 0
Otherwise = ℕ × Meaning

abbrev pub else_made : List Comparison → Option Otherwise → Meaning
else_made cond None c l s = nothing l
else_made cond (Some other) c l s =
    with_findings (found_if (not (may_have_else cond)) (ElseForm other.0))
    (guarded other.1 (else_rows c.scope cond) c l s)

abbrev pub array_number : Option What → ℕ
array_number (Some (Array number extents)) = number
array_number _ = 0

-- What is wrong with the target of an assignment. The count of processes passes 64 at the statement
-- of number 64, where the sinks are counted too.
abbrev pub target_findings : Context → ℕ → Name → ℕ → List BindError
target_findings c s target count =
    found_if (s + c.sinks == 64) (TooManyProcesses target.token)
    ++ found_if (nat_lt 32 (length c.rows)) (TooManyRows target.token)
    ++ access_findings target.token (value_named c.scope target.text) count

-- an assignment as a statement: it has the loops and the rows round it
abbrev pub assign_statement : Context → Name → List Operand → Operand → Statement
assign_statement c target subscripts right =
    record {
      role = role.Assign;
      loops = c.loops;
      rows = map (form_over (depth_of c)) c.rows;
      write = Some (record {
        array = array_number (value_named c.scope target.text);
        subscripts = subscripts_over (depth_of c) c.scope subscripts;
      });
      reads = (valued (depth_of c) c.scope right 0).reads;
      expr = (valued (depth_of c) c.scope right 0).expr;
    }

abbrev pub assign_made : Name → List Operand → Operand → Meaning
assign_made target subscripts right c l s =
    record {
      nodes = node.Assign s ∷ [];
      statements = assign_statement c target subscripts right ∷ [];
      next_loop = l;
      findings = target_findings c s target (length subscripts)
          ++ (findings_of Body c.scope subscripts
          ++ (valued (depth_of c) c.scope right 0).findings);
    }

abbrev pub part_step : Part-F Meaning Otherwise → Meaning
part_step (For name first second inclusive bound third step body) c l s =
    let bounds = loop_bounds c.scope first inclusive bound step in
    loop_made (depth_of c) l bounds (for_findings c name first second bound third step)
    (loop_body body c name.text bounds l s)
part_step (If cond body other) c l s =
    let yes = guarded body (guard_rows c.scope cond) c l s in
    with_findings (guard_findings c.scope cond)
    (both yes (else_made cond other c yes.next_loop (s + length yes.statements)))
part_step (Assign target subscripts value) c l s = assign_made target subscripts value c l s
part_step (Block parts) c l s = in_order parts c l s

abbrev pub other_step : Other-F Meaning Otherwise → Otherwise
other_step other = (other.token, other.body)

-- of a statement of the source: its nodes, its statements with the loops and rows round them, and each reason
unfoldable pub part_made : Part → Meaning
part_made = fold-Part Meaning Otherwise part_step other_step

abbrev pub parts_made : List Part → Meaning
parts_made parts = in_order (map part_made parts)

-- Declarations: the names in scope, the arrays, the count of processes, and each reason that stands
-- in them.
use Rattle.std.specs.Prelude.{ℕ, ◌+◌, ℤ, pos, ◌&&◌, List, [], ◌∷◌, ◌++◌, map, length, nat_lt, nat_le, Option, Some, None, not, unwrap_or}
use Rattle.std.specs.List.{fold}
use Rattle.sanlp.specs.declared.nest.ArrayDecl.{ArrayDecl}
use Rattle.sanlp.specs.declared.nest.Kind.{Kind}
use Rattle.sanlp.specs.declared.nest.Kind.TheVariants as kind
use Rattle.loop_grammar.specs.declared.tree.Declaration.{Declaration}
use Rattle.loop_grammar.specs.declared.tree.DeclWord.{DeclWord}
use Rattle.loop_grammar.specs.declared.tree.DeclWord.TheVariants.{Param, Input, Output, Both, Var}
use Rattle.loop_grammar.specs.declared.tree.Name.{Name}
use Rattle.loop_grammar.specs.declared.tree.Named.{Named}
use Rattle.loop_grammar.specs.declared.tree.Operand.{Operand}
use Rattle.loop_bind.specs.declared.error.BindError.{BindError}
use Rattle.loop_bind.specs.declared.error.BindError.TheVariants.{Unbound, TooManyProcesses, TooDeep, Large}
use Rattle.loop_bind.specs.declared.scope.Place.TheVariants.{Extent}
use Rattle.loop_bind.specs.declared.scope.What.TheVariants.{Parameter, Array}
use Rattle.loop_bind.specs.Forms.{is_limited_number}
use Rattle.loop_bind.specs.Judging.{Scope, forms_of, findings_of}
use Rattle.loop_bind.specs.Names.{value_named, with_name}
use Rattle.loop_bind.specs.Parts.{new_name_findings}
use Rattle.loop_bind.specs.Reasons.{found_if}

-- the values given for parameters
abbrev pub Values : Type 0
Values = List (List ℕ × ℤ)

pub record Declared : Type 0 where
  pub scope : Scope
  pub arrays : List ArrayDecl
  pub processes : ℕ
  pub findings : List BindError

abbrev pub nothing_declared : Declared
nothing_declared = record { scope = []; arrays = []; processes = 0; findings = [] }

-- a parameter has a value, which isn't too large
abbrev pub value_findings : ℕ → Option ℤ → List BindError
value_findings token None = Unbound token ∷ []
value_findings token (Some v) = found_if (not (is_limited_number v)) (Large token)

abbrev pub declare_parameter : Values → Declared → Name → Declared
declare_parameter params d name =
    let value = value_named params name.text in
    record d {
      scope = with_name d.scope name.text (Parameter (unwrap_or value (pos 0)));
      findings = d.findings ++ (new_name_findings d.scope name ++ value_findings name.token value);
    }

-- an input is a process and an output is one
abbrev pub processes_of : Kind → ℕ
processes_of kind.Input = 1
processes_of kind.Output = 1
processes_of kind.Both = 2
processes_of kind.Var = 0

-- what is wrong with an array besides its extents, where so many processes were counted before it
-- and with it
abbrev pub own_findings : Scope → ℕ → ℕ → Named → List BindError
own_findings scope before after array =
    new_name_findings scope array.name
    ++ found_if (nat_le before 64 && nat_lt 64 after) (TooManyProcesses array.name.token)
    ++ found_if (nat_lt 6 (length array.extents)) (TooDeep array.name.token)

abbrev pub array_findings : Declared → Kind → Named → List BindError
array_findings d k array =
    own_findings d.scope d.processes (d.processes + processes_of k) array
    ++ findings_of Extent d.scope array.extents

-- extents have no variable, so each is its constant
abbrev pub extents_of : Scope → List Operand → List ℤ
extents_of scope extents = map (λ f. f.constant) (forms_of Extent scope extents)

abbrev pub declare_array : Kind → Declared → Named → Declared
declare_array k d array =
    record {
      scope = with_name d.scope array.name.text (Array (length d.arrays) (length array.extents));
      arrays = d.arrays
          ++ record { name = array.name.text; kind = k; extents = extents_of d.scope array.extents }
          ∷ [];
      processes = d.processes + processes_of k;
      findings = d.findings ++ array_findings d k array;
    }

abbrev pub declare_name : Values → DeclWord → Declared → Named → Declared
declare_name params Param d named = declare_parameter params d named.name
declare_name params Input d named = declare_array kind.Input d named
declare_name params Output d named = declare_array kind.Output d named
declare_name params Both d named = declare_array kind.Both d named
declare_name params Var d named = declare_array kind.Var d named

abbrev pub declare : Values → Declared → Declaration → Declared
declare params d declaration = fold (declare_name params declaration.word) d declaration.names

unfoldable pub declared : Values → List Declaration → Declared
declared params declarations = fold (declare params) nothing_declared declarations

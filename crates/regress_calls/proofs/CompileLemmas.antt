-- What compiling comes to with what handles hold.
use Rattle.std.specs.Prelude.{◌≡◌, ℕ, Bool, List, chars}
use Rattle.std.proofs.Common.{subst}
use Rattle.regress_meaning.specs.Flags.{Options, options_of}
use Rattle.regress_meaning.specs.Table.{Table}
use Rattle.regress_meaning.specs.TableParts.{TableParts, table_of}
use Rattle.regress_front_core.specs.declared.error.Error.TheVariants as pattern
use Rattle.regress_front_tables.specs.declared.tables.Tables.{Tables}
use Rattle.regress_front_tables.specs.TableViews.{parts, table}
use Rattle.regress_errors.specs.declared.errors.CompileError.TheVariants as compiling
use Rattle.regress.specs.declared.api.Regex.{Regex}
use Rattle.regress_call_errors.specs.declared.call_error.CallError.{CallError}
use Rattle.regress_call_errors.specs.declared.call_error.CallError.TheVariants.{OutOfMemory}
use Rattle.regress_calls.specs.declared.compiling.Source.{Source}
use Rattle.regress_calls.specs.Compiling.{IsCompiled, MayRefuseCompile, MayRefusePoints, is_whole, points_of_source, of_pattern}
use Rattle.regress_calls.specs.Handles.{Content, OfTables}

-- memory may be refused with any points
pub refused-memory : (limit : ℕ) (whole : Bool) (t : Table) (o : Options) (points : List ℕ) (e : CallError) → e ≡ OutOfMemory
    → MayRefusePoints limit whole t o points e
refused-memory limit whole t o points e is = (compiling.Pattern pattern.OutOfMemory, tt, is)

-- what may refuse a source with tables may refuse it with a handle that holds them
pub refused-source : (c : Content) (limit : ℕ) (source : Source) (letters : List ℕ) (t : Tables) (o : Options) (e : CallError)
    → c ≡ OfTables (parts t) → o ≡ options_of (chars letters) → MayRefusePoints limit (is_whole source) (table t) o (points_of_source source o) e
    → MayRefuseCompile c limit (is_whole source) (points_of_source source) letters e
refused-source c limit source letters t o e holds is refused =
    of_pattern (parts t) holds (subst (λ (f : Options). MayRefusePoints limit (is_whole source) (table t) f (points_of_source source f) e) is refused)

one-table : (ps qs : TableParts) → OfTables ps ≡ OfTables qs → ps ≡ qs
one-table ps qs e = cc

-- a regex that is compiled with tables is so with their parts
pub compiled-with : (limit : ℕ) (source : Source) (t : Tables) (ps : TableParts) (o f : Options) (r : Regex) → OfTables (parts t) ≡ OfTables ps
    → o ≡ f → IsCompiled limit (is_whole source) (points_of_source source o) (table t) o r
    → IsCompiled limit (is_whole source) (points_of_source source f) (table_of ps) f r
compiled-with limit source t ps o f r held is compiled =
    subst (λ (qs : TableParts). IsCompiled limit (is_whole source) (points_of_source source f) (table_of qs) f r) (one-table (parts t) ps held)
    (subst (λ (g : Options). IsCompiled limit (is_whole source) (points_of_source source g) (table t) g r) is compiled)

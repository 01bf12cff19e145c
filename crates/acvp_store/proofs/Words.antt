-- The words that the proofs speak in: of the layers below, of the tables and of the store itself.
pub use Rattle.acvp_answers.specs.VerdictText.{verdicts_text}
pub use Rattle.acvp_json.specs.KeptAnswers.{kept_answers, kept_text}
pub use Rattle.acvp_registry.specs.Json.{body_json}
pub use Rattle.acvp_registry.specs.Object.{KeptObject, object_text}
pub use Rattle.acvp_registry.specs.declared.kind.Kind.{Kind}
pub use Rattle.acvp_registry.specs.declared.kind.Kind.TheVariants.{Certification, Environment, Module, Vendor}
pub use Rattle.acvp_store.specs.Alters.{Alters, SparesOthers}
pub use Rattle.acvp_store.specs.Connection.{Both, InStore, IsInside, IsRead, IsReady, IsWritten, Kept, LeavesNoMore}
pub use Rattle.acvp_store.specs.Connection.{LeavesSo, ServesStore, Stays, StaysSound, Under, UnderStore}
pub use Rattle.acvp_store.specs.Kept.{AreKept}
pub use Rattle.acvp_store.specs.Migrated.{IsAfterMigration, IsKnown, IsMigrated, IsOf, layout_after, Migrates, Moves}
pub use Rattle.acvp_store.specs.Private.Columns.{account_columns, capability_column, columns_of_object}
pub use Rattle.acvp_store.specs.Private.Columns.{columns_of_reviewer, request_columns, session_columns, set_columns}
pub use Rattle.acvp_store.specs.Private.Columns.{status_columns}
pub use Rattle.acvp_store.specs.Private.Creating.{before, Makes, table_of, text_of, WritesVersion}
pub use Rattle.acvp_store.specs.Private.Migration.{CopiesSets, EmptiesOldSets, HasOldTable, IsEarlierOf, RaisesVersion}
pub use Rattle.acvp_store.specs.Private.Migration.{version_of}
pub use Rattle.acvp_store.specs.Private.Objects.{IsObject, IsOfKind, IsReadObject, Registers}
pub use Rattle.acvp_store.specs.Private.Pages.{greatest, IsRowOf}
pub use Rattle.acvp_store.specs.Private.Performed.{IsPerformed, parameter}
pub use Rattle.acvp_store.specs.Private.Requests.{FitsBody, IsAsked, IsJudgedBody, IsJudgedRequest, IsReadable}
pub use Rattle.acvp_store.specs.Private.Requests.{request_shown}
pub use Rattle.acvp_store.specs.Private.SetRanges.{AreTexts, HasStraySet, whole_shown}
pub use Rattle.acvp_store.specs.Private.SetTexts.{AreVerdictsOf, IsOfCapability, TellsCapability, TellsVerdicts}
pub use Rattle.acvp_store.specs.Private.SetTexts.{text_shown}
pub use Rattle.acvp_store.specs.Private.Sets.{AddsSets, epoch_shown, HasUnjudged, is_live_row, IsDispositionOf, IsGiven}
pub use Rattle.acvp_store.specs.Private.Sets.{IsJudged, IsJudgedWhole, IsSummary, IsSummaryOf, new_set, read_columns}
pub use Rattle.acvp_store.specs.Private.Sets.{read_of, read_shown, ReadColumns, short_columns, short_of, short_shown}
pub use Rattle.acvp_store.specs.Private.Sets.{ShortColumns}
pub use Rattle.acvp_store.specs.Private.Shown.{AreLedBy, AreMet, AreShown, BeginsWith, HasOneOfNone, is_at_least}
pub use Rattle.acvp_store.specs.Private.Shown.{is_at_most, is_of, is_other, is_under, IsText}
pub use Rattle.acvp_store.specs.Private.Strays.{HasStray}
pub use Rattle.acvp_store.specs.Private.Summaries.{FitsCertification, purpose_number, purpose_text, PurposeReads}
pub use Rattle.acvp_store.specs.Private.Summaries.{status_shown, summary_shown}
pub use Rattle.acvp_store.specs.Ranges.{AreFull, AreObjectRanges, AreRanges, AreRangesBetween, AreReviewerRanges}
pub use Rattle.acvp_store.specs.Ranges.{first_number, first_set, FitsAccount, FitsObject, FitsRequest, FitsRequestBody}
pub use Rattle.acvp_store.specs.Ranges.{FitsReviewer, FitsSession, FitsSet, HasNumberBetween, HasRowOutside}
pub use Rattle.acvp_store.specs.Ranges.{HasStrayRow, is_between, is_column_between, is_number_between}
pub use Rattle.acvp_store.specs.Ranges.{is_object_between, IsAccountRow, IsObjectRow, IsRange, IsRegisteredWithin}
pub use Rattle.acvp_store.specs.Ranges.{IsRequestRow, IsReviewerRow, IsSessionRow, IsSetRow, IsTree, joined}
pub use Rattle.acvp_store.specs.Ranges.{KeepsObjects, KeepsSets, last_number, last_set, set_number}
pub use Rattle.acvp_store.specs.Rows.{account_key, account_row, account_shown, account_tree, HoldsAccounts}
pub use Rattle.acvp_store.specs.Rows.{HoldsSessions, session_key, session_row, session_shown, session_tree}
pub use Rattle.acvp_store.specs.Schema.{account_table, Created, First, first_schema, Layout, meta_table, Migrated}
pub use Rattle.acvp_store.specs.Schema.{no_schema, object_table, old_set_table, request_table, reviewer_table}
pub use Rattle.acvp_store.specs.Schema.{schema_at, schema_of, SchemaVersion, Second, second_schema, session_table}
pub use Rattle.acvp_store.specs.Schema.{set_table, table_by_number, Third}
pub use Rattle.acvp_store.specs.Stands.{body_number, body_text, BodyReads, certification_data, disposition_number}
pub use Rattle.acvp_store.specs.Stands.{Entry, entry_row, FitColumns, HasNoOldSets, HoldsEntries, HoldsObjects}
pub use Rattle.acvp_store.specs.Stands.{HoldsOldSets, HoldsRequests, HoldsReviewers, HoldsSets, IsGradedAs, IsKeepable}
pub use Rattle.acvp_store.specs.Stands.{IsSet, object_columns, object_tree, of_first_epoch, old_set_columns}
pub use Rattle.acvp_store.specs.Stands.{old_set_row, request_key, request_row, request_tree, reviewer_columns}
pub use Rattle.acvp_store.specs.Stands.{reviewer_tree, set_key, set_row, set_tree, SetColumns, Stands, StandsAt}
pub use Rattle.acvp_store.specs.Stands.{status_number}
pub use Rattle.acvp_store.specs.Store.{BecomesMigrated, Begins, IsOldOrMigrated, IsStoreAt, IsStoreOf, leaves, may_fail}
pub use Rattle.acvp_store.specs.Store.{meaning_of, stands}
pub use Rattle.acvp_store.specs.Values.{flag, whole}
pub use Rattle.acvp_store.specs.Version.{HasVersion, is_equal, is_schema_row, is_version_row, version_row}
pub use Rattle.acvp_store.specs.declared.ranges.RangeFault.{RangeFault}
pub use Rattle.acvp_store.specs.declared.ranges.RangeFault.TheVariants.{Stray}
pub use Rattle.acvp_tables.specs.Changes.{after, approved_objects, cancelled_session, cancelled_set, changed, disabled}
pub use Rattle.acvp_tables.specs.Changes.{is_account, is_pair, is_request, is_session, is_set, new_account}
pub use Rattle.acvp_tables.specs.Changes.{new_certification, new_objects, new_request, new_session, new_sets}
pub use Rattle.acvp_tables.specs.Changes.{with_counts, with_graded, with_last_request, with_passed, with_reviewer}
pub use Rattle.acvp_tables.specs.Changes.{with_status, with_step}
pub use Rattle.acvp_tables.specs.Content.{Content, greater, greatest_epoch_of, is_kind, is_reviewer, kind_number}
pub use Rattle.acvp_tables.specs.Content.{live_sets, object_at, objects_of, purpose_of, request_at, request_summary}
pub use Rattle.acvp_tables.specs.Content.{requests_of, reviewers_of, sessions_of, set_at, set_summary, set_verdicts}
pub use Rattle.acvp_tables.specs.Graded.{GradedValue}
pub use Rattle.acvp_tables.specs.State.{AreWellNumbered, first_of_account, first_of_session, given_number}
pub use Rattle.acvp_tables.specs.State.{is_sound_body, IsNumbered, objects_in, owner_of, session_record, set_record}
pub use Rattle.acvp_tables.specs.State.{SetRecord, sets_in}
pub use Rattle.acvp_tables.specs.declared.rows.AccountRow.{AccountRow}
pub use Rattle.acvp_tables.specs.declared.rows.ObjectRow.{ObjectRow}
pub use Rattle.acvp_tables.specs.declared.rows.RequestBody.{RequestBody}
pub use Rattle.acvp_tables.specs.declared.rows.RequestRow.{RequestRow}
pub use Rattle.acvp_tables.specs.declared.rows.RequestStatus.{RequestStatus}
pub use Rattle.acvp_tables.specs.declared.rows.ReviewerRow.{ReviewerRow}
pub use Rattle.acvp_tables.specs.declared.rows.SessionRow.{SessionRow}
pub use Rattle.acvp_tables.specs.declared.rows.SetRow.{SetRow}
pub use Rattle.acvp_tables.specs.declared.summary.SetSummary.{SetSummary}
pub use Rattle.acvp_tables.specs.declared.tables.StoreFault.{StoreFault}
pub use Rattle.sqlite.proofs.Callers.{command_of, IsPlain, one_permutation, one_step, reads_as, runs_as, statement_of}
pub use Rattle.sqlite.specs.Cast.{cast, cast_row}
pub use Rattle.sqlite.specs.Collation.TheVariants.{Binary}
pub use Rattle.sqlite.specs.Command.TheVariants.{CreateTable, Delete, Insert, Select, Update}
pub use Rattle.sqlite.specs.Does.{AtPlace, Concludes, Does, lacks_sequence, OnRows, Tally}
pub use Rattle.sqlite.specs.Edit.{Edit, edit_of}
pub use Rattle.sqlite.specs.Effect.{Answers, Database, IsDatabase, IsSource, value_rows}
pub use Rattle.sqlite.specs.Held.{Held, state}
pub use Rattle.sqlite.specs.Listing.{if_select, is_select, listing_schema, reads_listing, understood}
pub use Rattle.sqlite.specs.Ops.{binary, from_truth, is_true}
pub use Rattle.sqlite.specs.Order.{column, Row}
pub use Rattle.sqlite.specs.Program.{overlay}
pub use Rattle.sqlite.specs.Query.{end, inner, IsAnswer, Output, output, output_cmp, page, Query}
pub use Rattle.sqlite.specs.Rowids.TheVariants.{Chosen, Given}
pub use Rattle.sqlite.specs.Schema.{Schema}
pub use Rattle.sqlite.specs.Source.TheVariants.{Values}
pub use Rattle.sqlite.specs.State.{CommitsShowing, ExecutesInside, FailsToQuery, FailsToShow, HasCleanDisk}
pub use Rattle.sqlite.specs.State.{IsRolledBack, IsUnchanged, mode_of, Runs, Shown, Shows, ShowsRows, State, Survives}
pub use Rattle.sqlite.specs.Table.{Table}
pub use Rattle.sqlite.specs.Term.{case, col, Env, eval, eval_all, holds, lit, op1, op2, Term}
pub use Rattle.sqlite.specs.Tree.{has_rowid, IsAscending, IsTable, put_row, rowid, Trees, without_rowid}
pub use Rattle.sqlite.specs.Values.{or_null}
pub use Rattle.sqlite.specs.declared.error.Error.{Error}
pub use Rattle.sqlite.specs.declared.types.Value.{Value}
pub use Rattle.sqlite.specs.declared.types.Value.TheVariants.{Blob, Int, Null, Real, Text}
pub use Rattle.sqlite_catalog.proofs.ListFacts.{zip_push}
pub use Rattle.sqlite_resolve.specs.Compile.{command, first, small}
pub use Rattle.sqlite_rules.specs.Action.{deed_for, pairs, work_by, work_for, works, Writes}
pub use Rattle.sqlite_rules.specs.Calls.{ids_of}
pub use Rattle.sqlite_rules.specs.Edit.{Applies, are_fresh, id_in, left_by, next_rowid, put_all, taken_by, with_rowid}
pub use Rattle.sqlite_rules.specs.Edit.{without_all}
pub use Rattle.sqlite_schema.specs.Rules.{agree, are_present, are_typed, clashes, differ, parent_key, passes, suits}
pub use Rattle.sqlite_schema.specs.declared.command.Command.{Command}
pub use Rattle.sqlite_schema.specs.declared.schema.Constraint.TheVariants.{Datatype, NotNull, Unique}
pub use Rattle.sqlite_schema.specs.declared.schema.Keys.TheVariants.{Enforced}
pub use Rattle.sqlite_sql.specs.Ops.{is_null, or3, truth}
pub use Rattle.sqlite_sql.specs.declared.ops.BinaryOp.TheVariants.{And, Compare, Is, Or}
pub use Rattle.sqlite_sql.specs.declared.ops.CompareOp.TheVariants.{Eq, Ge, Le, Lt, Ne}
pub use Rattle.sqlite_trees.proofs.ListLemmas.{all-append, all-filter, all-map, all-permutation, all-slice_get}
pub use Rattle.sqlite_trees.proofs.ListLemmas.{all_both, all_from_map, all_of, all_weaker, ascending-filter}
pub use Rattle.sqlite_trees.proofs.ListLemmas.{ascending-map, ascending_from_map, ascending_weaker, filter-map}
pub use Rattle.sqlite_trees.proofs.ListLemmas.{filter_all, filter_none, filter_same, IsPermutation-filter, map-map}
pub use Rattle.sqlite_trees.proofs.ListLemmas.{pull_back}
pub use Rattle.sqlite_trees.specs.View.{doubt, is_int}
pub use Rattle.sqlite_value.proofs.OrderLemmas.{value_cmp-apart, value_cmp-Int, value_cmp-Null, value_cmp-Text}
pub use Rattle.sqlite_value.specs.Keys.{ascending, plain}
pub use Rattle.sqlite_value.specs.Order.{value_cmp}
pub use Rattle.std.proofs.Common.{[], ap, arith, inl, inr, length, refl, rules, take, to_z-of_z, w64}
pub use Rattle.std.proofs.lemmas.Bool.{cases_Bool}
pub use Rattle.std.proofs.lemmas.Bool.Decides.{nat_tests}
pub use Rattle.std.proofs.lemmas.Int.{ints}
pub use Rattle.std.proofs.lemmas.List.{append-nil, append_cancel_left, drop_all, length-drop, length-map, map-append}
pub use Rattle.std.proofs.lemmas.List.{map-id, take-map, take_min, take_more}
pub use Rattle.std.proofs.lemmas.List.Sorted.{IsPermutation-append, IsPermutation-append_comm}
pub use Rattle.std.proofs.lemmas.List.Sorted.{IsPermutation-append_left, IsPermutation-append_right, IsPermutation-cons}
pub use Rattle.std.proofs.lemmas.List.Sorted.{IsPermutation-map, IsPermutation-middle, IsPermutation-refl}
pub use Rattle.std.proofs.lemmas.List.Sorted.{IsPermutation-sym, IsPermutation-to_front, IsPermutation-trans}
pub use Rattle.std.proofs.lemmas.List.Sorted.{length_permutation, list_any-IsPermutation}
pub use Rattle.std.proofs.lemmas.Option.{slice_get-get_or}
pub use Rattle.std.proofs.lemmas.Result.{IfErr-weaker, IfOk-weaker}
pub use Rattle.std.proofs.lemmas.Str.{IsUtf8-from_ascii, IsUtf8-from_is_utf8, IsUtf8-string_bytes}
pub use Rattle.std.specs.List.{AllByRecursion, AllZip, drop-map, filter, filter_map, flat_map, list_all, list_any}
pub use Rattle.std.specs.List.{range_with_len}
pub use Rattle.std.specs.List.Sorted.{IsPermutation}
pub use Rattle.std.specs.Ordering.{is_eq, is_ge, is_le, is_lt, is_ne, match_ordering, ordering_then}
pub use Rattle.std.specs.Prelude.{drop, find, fold, is_none, is_some, IsErrAnd, IsOkAnd, IsUtf8, map, MatchOption}
pub use Rattle.std.specs.Prelude.{MatchResult, min, nat_le, nat_lt, not, option_and_then, option_map, option_to_list}
pub use Rattle.std.specs.Prelude.{slice_get, Some, string_bytes, unwrap_or, ⊤}
pub use mir.Val.{SFits}

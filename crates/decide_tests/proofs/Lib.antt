mod FewRows
mod Fitting
mod Alone
